-- What the steps of an export come to.
use Rattle.std.specs.Prelude.{◌≡◌, ℕ, ◌-◌, true, false, List, length, take, is_ok, is_some, MatchResult, Some, None, Ok, Err, Option, Result, refl}
use Rattle.std.proofs.Common.{sym, ◌∙◌, ap, subst, arith}
use Rattle.std.specs.Option.{option_map}
use Rattle.std.specs.Result.{IsErrAnd}
use Rattle.std.proofs.lemmas.Result.{err_from_is_err_and}
use Rattle.keys.specs.Text.{Bytes}
use Rattle.storage.specs.Contents.{Contents, found, sized, bytes_of, put, moved}
use Rattle.storage.specs.Faults.{own, raised, at_step, fault_of, answered}
use Rattle.storage.specs.Writes.{set, rename, patched}
use Rattle.storage.specs.Stores.{Wrote}
use Rattle.storage.specs.declared.fault.Fault.{Fault}
use Rattle.storage.specs.declared.fault.Cause.TheVariants.{Exists}
use Rattle.storage.specs.declared.storage_sync.ReadableStorageTraits.{Ghosts}
use Rattle.storage.proofs.Order.{clash}
use Rattle.storage.proofs.OffsetWrites.{asked_yes}
use Rattle.storage.proofs.Places.{moved-put}
use Rattle.patches.specs.declared.Patch.{Patch}
use Rattle.patches.specs.Patches.{lay_no}
use Rattle.patches.proofs.Laying.{take-fronted}
use Rattle.ranges.specs.Buffers.{fronted}
use Rattle.atomic_write.specs.Exports.{temporary, temporary_no, or_else, standing_no, export_no, Exported, unbegun, unfinished, finished, patch_export_no, PatchExported}

-- a verdict that refuses is one that refuses once it is passed up
pub raised_some : (o : Option Fault) → (f : Fault) × (o ≡ Some f) → (f : Fault) × (option_map raised o ≡ Some f)
raised_some o h = (raised h.0, ap (option_map raised) h.1)

-- a length is there exactly if the value is
sized_some : (o : Option Bytes) → is_some (sized o) ≡ is_some o
sized_some None = refl
sized_some (Some v) = refl

absent : (o : Option Bytes) → is_some o ≡ false → o ≡ None
absent None p = refl
absent (Some v) p = clash true refl p

-- the questions, as the steps answer them
module _ (k : Bytes) (c : Contents) where
  pub no_key : (f : Fault) → temporary_no k ≡ Some f → export_no k c ≡ Some f
  no_key f n = ap (λ (o : Option Fault). or_else o (standing_no (is_some (found (temporary k) c)))) n

  module _ (t : Bytes) (r : Option ℕ) (n : temporary_no k ≡ None) (is : t ≡ temporary k) (size : r ≡ sized (found t c)) where
    test : is_some (found (temporary k) c) ≡ is_some r
    test = sym (ap is_some size ∙ sized_some (found t c) ∙ ap (λ (x : Bytes). is_some (found x c)) is)

    asked : export_no k c ≡ standing_no (is_some r)
    asked = ap (λ (o : Option Fault). or_else o (standing_no (is_some (found (temporary k) c)))) n ∙ ap standing_no test

    pub taken : true ≡ is_some r → export_no k c ≡ Some (own Exists)
    taken h = asked ∙ ap standing_no (sym h)

    pub free : false ≡ is_some r → (found (temporary k) c ≡ None) × (export_no k c ≡ None)
    free h = (absent _ (test ∙ sym h), asked ∙ ap standing_no (sym h))

-- the value set under the temporary key and renamed is stored under the key
pub stored_at :
    {S : Type 0} (m : Ghosts S) (k v t : Bytes) (s s'' s' : S)
    → found t (m.contents s) ≡ None
    → Wrote {A = Unit {0}} m (set t v) (Ok tt) s s''
    → (r : Result (Unit {0}) Fault)
    → Wrote m (rename t k) r s'' s'
    → is_ok r ≡ true
    → m.contents s' ≡ put k v (m.contents s)
stored_at m k v t s s'' s' none first r second done =
    second.accepted done ∙ ap (moved t k) (first.accepted refl) ∙ moved-put t k v (m.contents s) none

-- no length is there where the value is not
pub absent_at : (t : Bytes) (c : Contents) (r : Option ℕ) → r ≡ sized (found t c) → false ≡ is_some r → found t c ≡ None
absent_at t c r size h = absent _ (sym (sized_some (found t c)) ∙ ap is_some (sym size) ∙ sym h)

module _ {S : Type 0} (m : Ghosts S) (k v t : Bytes) (s s' : S) (tidy : m.tidy ≡ true) (is : t ≡ temporary k) (no : (found (temporary k) (m.contents s) ≡ None) × (export_no k (m.contents s) ≡ None)) where
  pub unbegun_at : (f g : Fault) → g ≡ at_step 1 (raised f) → Wrote {A = Unit {0}} m (set t v) (Err f) s s' → Exported m k v s s' (Err g)
  unbegun_at f g e w =
      let h = w.tidily tidy in
      subst (λ (x : Fault). Exported m k v s s' (Err x)) (sym e)
      (unbegun f no.1 (ap (λ (x : Bytes). m.verdict s (set x v)) (sym is) ∙ h.0) h.1)

  module _ (s'' : S) (first : Wrote {A = Unit {0}} m (set t v) (Ok tt) s s'') where
    begun : m.verdict s (set (temporary k) v) ≡ None
    begun = ap (λ (x : Bytes). m.verdict s (set x v)) (sym is) ∙ first.tidily tidy

    stands : m.contents s'' ≡ put (temporary k) v (m.contents s)
    stands = first.accepted refl ∙ ap (λ (x : Bytes). put x v (m.contents s)) is

    pub unfinished_at : (f g : Fault) → g ≡ at_step 2 (raised f) → Wrote {A = Unit {0}} m (rename t k) (Err f) s'' s' → Exported m k v s s' (Err g)
    unfinished_at f g e w =
        subst (λ (x : Fault). Exported m k v s s' (Err x)) (sym e) (unfinished f no.1 begun ((w.tidily tidy).1.0 ∙ stands))

    pub finished_at : Wrote {A = Unit {0}} m (rename t k) (Ok tt) s'' s' → Exported m k v s s' (Ok tt)
    finished_at w =
        finished no.1 begun
        (stored_at m k v t s s'' s' (ap (λ (x : Bytes). found x (m.contents s)) is ∙ no.0) first (Ok tt) w refl)

    -- the second step, by what the store below said of it
    pub ended_at :
        (P : Fault → Fault → Type 0) (a r : Result (Unit {0}) Fault)
        → ((f g : Fault) → P f g → g ≡ at_step 2 (raised f))
        → Wrote m (rename t k) a s'' s'
        → MatchResult a (λ u. r ≡ Ok u) (λ f. IsErrAnd r (P f))
        → Exported m k v s s' r
    ended_at P (Ok u) r says w h = subst (λ (x : Result (Unit {0}) Fault). Exported m k v s s' x) (sym h) (finished_at w)
    ended_at P (Err f) r says w h = let p = err_from_is_err_and r h in rw p.1 (unfinished_at f p.0 (says f p.0 p.2) w)

-- a value built in the work buffer, and exported from its front
module _ {S : Type 0} (m : Ghosts S) (k d : Bytes) (ps : List Patch) (s : S) (work work₁ v : Bytes) (n : ℕ)
    (key : temporary_no k ≡ None)
    (built : ◌≡◌ {A = Result ℕ Fault} (Ok n) (answered (lay_no d ps (bytes_of (found k (m.contents s))) (length work)) (length (patched k d ps (m.contents s)))))
    (there : work₁ ≡ fronted (patched k d ps (m.contents s)) work)
    (part : v ≡ take (n - 0) work₁) where
  pub built_value : v ≡ patched k d ps (m.contents s)
  built_value = part ∙ ap (take (n - 0)) there ∙ take-fronted (n - 0) (patched k d ps (m.contents s)) work (omega (arith, (asked_yes _ _ _ built).1))

  questions : patch_export_no k d ps (bytes_of (found k (m.contents s))) (length work) ≡ None
  questions =
      ap (λ (o : Option Fault). or_else o (option_map fault_of (lay_no d ps (bytes_of (found k (m.contents s))) (length work)))) key
      ∙ ap (option_map fault_of) (asked_yes _ _ _ built).0

  pub patch_exported : (s' : S) (r : Result (Unit {0}) Fault) → Exported m k v s s' r → PatchExported m k d ps s s' work work₁ r
  patch_exported s' r e = rw questions (rw (sym built_value) e, there)
