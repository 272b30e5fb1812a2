-- What one event does to the contents, in the words of the laws.
use Rattle.std.proofs.Common.{◌≡◌, ℕ, Bool, true, false, cond, ◌&&◌, eqb, ltb, List, ◌∷◌, length, take, is_some, Some, None, Ok, Err, Option, Result, sym, refl, ap, ◌∙◌, subst, arith}
use Rattle.std.proofs.lemmas.List.{take_at}
use Rattle.std.proofs.lemmas.Bool.{ne_eqb, and_left, and_right}
use Rattle.std.specs.Option.{option_map}
use Rattle.keys.specs.Text.{Bytes}
use Rattle.keys.specs.declared.store_key.StoreKeyError.TheVariants.{TooLong}
use Rattle.keys.specs.declared.row.Row.{Row}
use Rattle.ranges.specs.Refusals.{Refusal}
use Rattle.patches.specs.Patches.{lay_no}
use Rattle.patches.specs.declared.Patch.{Patch}
use Rattle.storage.specs.Contents.{Contents, same, found, bytes_of, put, without}
use Rattle.storage.specs.Erasures.{named}
use Rattle.storage.specs.Faults.{own, from_key, fault_of}
use Rattle.storage.specs.declared.fault.Cause.TheVariants.{Root}
use Rattle.storage.specs.declared.fault.Fault.{Fault}
use Rattle.storage.proofs.Finds.{without_none, without-same}
use Rattle.atomic_write.specs.Exports.{temporary, temporary_no, or_else, standing_no, export_no, patch_export_no}
use Rattle.runs.specs.Labels.{Plain}
use Rattle.runs.specs.Events.{Ask, set, patch, erase, erase_many, erase_prefix, power_on, read, Reply, wrote, patched, Event, accepted, fault_at, done, refused_at, exports, making, finishing, interrupting, erased_by, erases}
use Rattle.runs.specs.Laws.{PlainAsk}
use Rattle.runs.specs.Performed.{ExportLeft, refused, unbegun, unfinished, finished, PatchLeft, asked, tried, EraseLeft, erased, kept, ManyLeft, all, stopped, Performed}

pub none_some : {A : Type 0} {f : Fault} → ◌≡◌ {A = Option Fault} None (Some f) → A
none_some e = let z : ◌≡◌ {A = ℕ} 0 1 = cc in absurd (omega arith)

-- a fault of the adapter's own questions is of no step, and of depth 0
abbrev pub Own : Fault → Type 0
Own f = (f.step ≡ 0) × (f.depth ≡ 0)

own_some : {g f : Fault} → ◌≡◌ {A = Option Fault} (Some g) (Some f) → Own g → Own f
own_some {g} {f} e o = let q : g ≡ f = cc in subst Own q o

temporary-own : (k : Bytes) (f : Fault) → temporary_no k ≡ Some f → Own f
temporary-own k f e = go (eqb (length k) 0) (ltb 120 (length (temporary k))) e
  where
    go : (a b : Bool) → cond a (Some (own Root)) (cond b (Some (from_key TooLong)) None) ≡ Some f → Own f
    go true b q = own_some q (refl, refl)
    go false true q = own_some q (refl, refl)
    go false false q = none_some q

pub export_own : (k : Bytes) (c : Contents) (f : Fault) → export_no k c ≡ Some f → Own f
export_own k c f e = go (temporary_no k) (is_some (found (temporary k) c)) refl e
  where
    go : (o : Option Fault) (b : Bool) → temporary_no k ≡ o → or_else o (standing_no b) ≡ Some f → Own f
    go (Some g) b q e = own_some e (temporary-own k g q)
    go None true q e = own_some e (refl, refl)
    go None false q e = none_some e

pub patch_own : (k : Bytes) (ps : List Patch) (d : Bytes) (n : ℕ) (old : Bytes) (f : Fault) → patch_export_no k d ps old n ≡ Some f → Own f
patch_own k ps d n old f e = go (temporary_no k) (lay_no d ps old n) refl e
  where
    go : (o : Option Fault) (q : Option Refusal) → temporary_no k ≡ o → or_else o (option_map fault_of q) ≡ Some f → Own f
    go (Some g) q p e = own_some e (temporary-own k g p)
    go None (Some r) p e = own_some e (refl, refl)
    go None None p e = none_some e

-- an export that passes its questions finds no temporary
pub export_absent : (k : Bytes) (c : Contents) → export_no k c ≡ None → found (temporary k) c ≡ None
export_absent k c e = go (temporary_no k) (found (temporary k) c) e
  where
    go : (o : Option Fault) (v : Option Bytes) → or_else o (standing_no (is_some v)) ≡ None → v ≡ None
    go (Some f) v e = none_some (sym e)
    go None None e = refl
    go None (Some b) e = none_some (sym e)

-- an event begins no export and removes what it erases, or finishes an export, or leaves one unfinished
pub data Step (e : Event) (c c' : Contents) : Type 0 where
  left :
      ((t : Bytes → Bool) → finishing t e ≡ false)
      → ((t : Bytes → Bool) → interrupting t e ≡ false)
      → c' ≡ without (erased_by e.ask e.reply) c
      → Step e c c'
  ended :
      (j : Bytes)
      → Plain j
      → found (temporary j) c ≡ None
      → ((t : Bytes → Bool) → finishing t e ≡ t j)
      → ((t : Bytes → Bool) → interrupting t e ≡ false)
      → ((k : Bytes) → erases k e ≡ false)
      → c' ≡ put j (making e.ask (found j c)) c
      → Step e c c'
  begun :
      (j : Bytes)
      → Plain j
      → found (temporary j) c ≡ None
      → ((t : Bytes → Bool) → finishing t e ≡ false)
      → ((t : Bytes → Bool) → interrupting t e ≡ t j)
      → ((k : Bytes) → erases k e ≡ false)
      → c' ≡ put (temporary j) (making e.ask (found j c)) c
      → Step e c c'

module _ (s : Ask) (a : Reply) where
  abbrev event : Event
  event = record { ask = s; reply = a }

  no_test : (b : Bool) → b ≡ false → (t : Bytes → Bool) → (b && exports t s) ≡ false
  no_test b q t = and_left b (exports t s) q

  nothing : {c c' : Contents} → done a ≡ false → refused_at 2 a ≡ false → ((k : Bytes) → erased_by s a k ≡ false) → c' ≡ c → Step event c c'
  nothing {c} d r n e = left (no_test (done a) d) (no_test (refused_at 2 a) r) (e ∙ sym (without_none (erased_by s a) n c))

  -- what is no export
  other : {c c' : Contents} → ((t : Bytes → Bool) → exports t s ≡ false) → c' ≡ without (erased_by s a) c → Step event c c'
  other x e = left (λ t. and_right (done a) (exports t s) (x t)) (λ t. and_right (refused_at 2 a) (exports t s) (x t)) e

  module _ (j : Bytes) (p : Plain j) (x : (t : Bytes → Bool) → exports t s ≡ t j) (n : (k : Bytes) → erased_by s a k ≡ false) where
    yes_test : (b : Bool) → b ≡ true → (t : Bytes → Bool) → (b && exports t s) ≡ t j
    yes_test b q t = rw q (x t)

    exported : {c c' : Contents} {r : Result (Unit {0}) Fault} → done a ≡ accepted r → refused_at 2 a ≡ fault_at 2 r → ExportLeft j (making s (found j c)) c c' r → Step event c c'
    exported {c} d r (refused f q e) = nothing d (r ∙ ne_eqb f.step 2 (λ i. omega (arith, (export_own j c f q).0))) n e
    exported d r (unbegun f q e) = nothing d r n e
    exported {c} d r (unfinished f q e) = begun j p (export_absent j c q) (no_test (done a) d) (yes_test (refused_at 2 a) r) n e
    exported {c} d r (finished q e) = ended j p (export_absent j c q) (yes_test (done a) d) (no_test (refused_at 2 a) r) n e

patched_step : (j : Bytes) (ps : List Patch) (d : Bytes) (m : ℕ) {c c' : Contents} {a : Reply} → Plain j → PatchLeft j ps d m c c' a → Step (record { ask = patch j ps d m; reply = a }) c c'
patched_step j ps d m {c} p (asked f q e) =
    nothing (patch j ps d m) (patched (Err f) _) refl (ne_eqb f.step 2 (λ i. omega (arith, (patch_own j ps d m (bytes_of (found j c)) f q).0))) (λ k. refl) e
patched_step j ps d m p (tried {r} q x) = exported (patch j ps d m) (patched r _) j p (λ t. refl) (λ k. refl) refl refl x

erase_left : (s : Ask) (t : Bytes → Bool) {c c' : Contents} {a : Reply} → ((b : Reply) (k : Bytes) → erased_by s b k ≡ (done b && t k)) → EraseLeft t c c' a → c' ≡ without (erased_by s a) c
erase_left s t {c} w (erased e) = e ∙ without-same t (erased_by s (wrote (Ok tt))) (λ k. sym (w (wrote (Ok tt)) k)) c
erase_left s t {c} w (kept f e) = e ∙ sym (without_none _ (w (wrote (Err _))) c)

pub many_left : (rs : List Row) {c c' : Contents} {a : Reply} → ManyLeft rs c c' a → c' ≡ without (erased_by (erase_many rs) a) c
many_left rs (all k e) = e
many_left rs {c} (stopped before w behind f p k n e) = e ∙ ap (λ (x : List Row). without (named x) c) (sym (ap (take (length before)) p ∙ take_at before (w ∷ behind) (length before) refl))

pub step_of : (n : ℕ) (s : Ask) (a : Reply) (c c' : Contents) → PlainAsk s → Performed n s a c c' → Step (record { ask = s; reply = a }) c c'
step_of n (set j v) a c c' p x = exported (set j v) a j p (λ t. refl) (λ k. refl) (ap done x.1) (ap (refused_at 2) x.1) x.2
step_of n (patch j ps d m) a c c' p x = patched_step j ps d m p x
step_of n (erase j) a c c' p x = other (erase j) a (λ t. refl) (erase_left (erase j) (λ k. same k j) (λ b k. refl) x)
step_of n (erase_many rs) a c c' p x = other (erase_many rs) a (λ t. refl) (many_left rs x)
step_of n (erase_prefix q) a c c' p x = other (erase_prefix q) a (λ t. refl) (erase_left (erase_prefix q) _ (λ b k. refl) x)
step_of n power_on a c c' p x = other power_on a (λ t. refl) (x.1 ∙ sym (without_none _ (λ k. refl) c))
step_of n (read q) a c c' p x = other (read q) a (λ t. refl) (x.3 ∙ sym (without_none _ (λ k. refl) c))
