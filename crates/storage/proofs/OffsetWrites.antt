-- Offset writes: their questions, and what the work buffer comes to.
use Rattle.std.proofs.Common.{◌≡◌, ℕ, ◌-◌, ◌≤◌, Bool, true, false, List, [], ◌∷◌, length, take, is_ok, Some, None, Ok, Err, Option, Result, sym, refl, ap, ◌∙◌, arith}
use Rattle.storage.specs.declared.fault.Fault.{Fault}
use Rattle.storage.specs.Faults.{answered, fault_of}
use Rattle.storage.specs.Writes.{set, patch, patched, patch_no, worked, Verdict, Asked, Ruled, Settled, OffsetWritten}
use Rattle.storage.specs.Contents.{Contents, found, bytes_of}
use Rattle.storage.specs.Stores.{Wrote, Built}
use Rattle.storage.specs.declared.storage_sync.ReadableStorageTraits.{Ghosts}
use Rattle.keys.specs.Text.{Bytes}
use Rattle.ranges.specs.Refusals.{Refusal, first_no, few, room}
use Rattle.patches.specs.declared.Patch.{Patch}
use Rattle.patches.specs.Patches.{places_inside, patches_no, lay_no, in_place_no, patched_length}
use Rattle.patches.specs.Patches.{laid_all, patch_refusal}
use Rattle.patches.specs.declared.PatchError.{PatchError}
use Rattle.patches.proofs.Laying.{same_questions, old_fits, places_fit, length-fronted, fronted-fronted, laid_on_copy, take-fronted}
use Rattle.ranges.specs.Buffers.{fronted}
use Rattle.ranges.specs.Refusals.{told, unless}
use Rattle.ranges.proofs.Questions.{yes_from_unless, none_of_three, enough_from_room}
use Rattle.storage.proofs.Order.{clash}

-- back from an answer to its questions
pub asked_yes : {X : Type 0} (q : Option Refusal) (x y : X) → ◌≡◌ {A = Result X Fault} (Ok y) (answered q x) → (q ≡ None) × (y ≡ x)
asked_yes None x y h = (refl, cc)
asked_yes (Some f) x y h = absurd (let z : ◌≡◌ {A = ℕ} 0 1 = cc in omega arith)

pub asked_no : {X : Type 0} (q : Option Refusal) (x : X) (f : Fault) → ◌≡◌ {A = Result X Fault} (Err f) (answered q x) → (e : Refusal) × (q ≡ Some e) × (f ≡ fault_of e)
asked_no None x f h = absurd (let z : ◌≡◌ {A = ℕ} 0 1 = cc in omega arith)
asked_no (Some e) x f h = (e, refl, cc)

-- once two questions are answered yes, the third decides
pub third : (q r x : Option Refusal) → first_no (q ∷ r ∷ []) ≡ None → x ≡ first_no (q ∷ r ∷ x ∷ [])
third None None None e = refl
third None None (Some f) e = refl
third None (Some f) x e = absurd (let z : ◌≡◌ {A = ℕ} 0 1 = cc in omega arith)
third (Some f) r x e = absurd (let z : ◌≡◌ {A = ℕ} 0 1 = cc in omega arith)

-- once number and places of the patches are answered for, the room for the new value is asked
pub lay_room : (d : Bytes) (ps : List Patch) (old : Bytes) (space : ℕ) → patches_no (length d) ps ≡ None → room space (patched_length (length old) ps) ≡ lay_no d ps old space
lay_room d ps old space h = third (few ps) (places_inside (length d) 0 ps) (room space (patched_length (length old) ps)) h ∙ same_questions d ps old space

module _ (d : Bytes) (ps : List Patch) (old work : Bytes) (h : lay_no d ps old (length work) ≡ None) where
  asked : in_place_no d ps (length old) (length work) ≡ None
  asked = same_questions d ps old (length work) ∙ h

  -- the old value fits where the new one does
  pub old_fits_work : length old ≤ length work
  old_fits_work = old_fits d ps (length old) (length work) asked

  -- with the old value at the front of the work buffer, the patches are laid there
  module _ (work₁ : Bytes) (m : ℕ) (copied : work₁ ≡ fronted old work) (is : m ≡ length old) where
    asked_there : in_place_no d ps m (length work₁) ≡ None
    asked_there = ap (λ (n : ℕ). in_place_no d ps n (length work₁)) is ∙ ap (λ (b : Bytes). in_place_no d ps (length old) (length b)) copied ∙ ap (in_place_no d ps (length old)) (length-fronted old work old_fits_work) ∙ asked

    pub not_refused : (e : PatchError) → told {X = ℕ} patch_refusal (Err e) ≡ unless (in_place_no d ps m (length work₁)) (length (laid_all d ps (take m work₁))) → ⊥
    not_refused e q = let z = q ∙ ap (λ (o : Option Refusal). unless o (length (laid_all d ps (take m work₁)))) asked_there in absurd (let z : ◌≡◌ {A = ℕ} 0 1 = cc in omega arith)

    pub laid_there : (n : ℕ) (work₂ : Bytes) → told {X = ℕ} {E = PatchError} patch_refusal (Ok n) ≡ unless (in_place_no d ps m (length work₁)) (length (laid_all d ps (take m work₁)))
        → work₂ ≡ fronted (laid_all d ps (take m work₁)) work₁
        → (n ≡ length (laid_all d ps old)) × (work₂ ≡ fronted (laid_all d ps old) work)
    laid_there n work₂ q e =
        laid_on_copy d ps old work work₁ work₂ n (places_fit d ps (length old) (length work) asked) copied
        ((yes_from_unless _ _ _ q).1 ∙ ap (λ (k : ℕ). length (laid_all d ps (take k work₁))) is)
        (e ∙ ap (λ (k : ℕ). fronted (laid_all d ps (take k work₁)) work₁) is)

-- a value built in the work buffer and set, by what building it answered
module _ {S : Type 0} (m : Ghosts S) (q : Option Refusal) (k new : Bytes) (r : Result (Unit {0}) Fault) (s : S) (work work' : Bytes) (n : ℕ) where
  pub built_no : (f f' : Fault) → Err f ≡ answered q n → r ≡ Err f' → f' ≡ f → work' ≡ work → Built m q (set k new) new r s s work work'
  built_no f f' h is same kept = let a = asked_no q n f h in rw a.1 (is ∙ ap Err (same ∙ a.2), (refl, λ w. refl), kept)

  pub built_yes : (s' : S) (v : Bytes) (i : ℕ) → Ok i ≡ answered q n → n ≡ length new → v ≡ take (i - 0) work' → Wrote m (set k v) r s s' → work' ≡ fronted new work → Built m q (set k new) new r s s' work work'
  built_yes s' v i h len is wrote there =
      let a = asked_yes q n i h in
      let e : v ≡ new = is ∙ ap (take (i - 0)) there ∙ take-fronted (i - 0) new work (omega (arith, a.1 ∙ len)) in
      rw a.0 (rw (sym e) wrote, there)

-- an offset write whose questions are answered yes is a write as any other
module _ {A : Type 0} (tidy inPlace : Bool) (k d : Bytes) (ps : List Patch) (r : Result A Fault) (c c' : Contents) (v v' : Verdict) (work work' : Bytes) (asks : patch_no inPlace d ps (bytes_of (found k c)) (length work) ≡ None) where
  pub settled_from_offset : OffsetWritten tidy inPlace k d ps r c c' v v' work work' → Settled tidy inPlace (patch k d ps) r c c' v v'
  settled_from_offset h = record { accepted = λ e. (h.accepted e).0; tidily = λ t. (asked_ruled (h.tidily t)).0 }
    where
      asked_ruled : Asked (patch_no inPlace d ps (bytes_of (found k c)) (length work)) (patch k d ps) (worked inPlace (patched k d ps c) work) r c c' v v' work work' → Ruled (patch k d ps) r c c' v v' × (work' ≡ worked inPlace (patched k d ps c) work)
      asked_ruled = rw asks (λ x. x)

  pub worked_from_offset : OffsetWritten tidy inPlace k d ps r c c' v v' work work' → tidy ≡ true → work' ≡ worked inPlace (patched k d ps c) work
  worked_from_offset h t = go (h.tidily t)
    where
      go : Asked (patch_no inPlace d ps (bytes_of (found k c)) (length work)) (patch k d ps) (worked inPlace (patched k d ps c) work) r c c' v v' work work' → work' ≡ worked inPlace (patched k d ps c) work
      go = rw asks (λ x. x.1)

  pub offset_from_settled : Settled tidy inPlace (patch k d ps) r c c' v v' → (is_ok r ≡ true → work' ≡ worked inPlace (patched k d ps c) work) → (tidy ≡ true → work' ≡ worked inPlace (patched k d ps c) work) → OffsetWritten tidy inPlace k d ps r c c' v v' work work'
  offset_from_settled s done ruled = record { accepted = λ e. (s.accepted e, done e); tidily = λ t. rw asks (s.tidily t, ruled t) }

-- refused by its questions
pub offset_refused : {A : Type 0} (tidy inPlace : Bool) (k d : Bytes) (ps : List Patch) (f : Fault) (c : Contents) (v : Verdict) (work work' : Bytes)
    → ◌≡◌ {A = Result (Unit {0}) Fault} (Err f) (answered (patch_no inPlace d ps (bytes_of (found k c)) (length work)) (tt {0}))
    → work' ≡ work
    → OffsetWritten {A = A} tidy inPlace k d ps (Err f) c c v v work work'
offset_refused tidy inPlace k d ps f c v work work' h kept =
    let q = asked_no _ _ _ h in
    record { accepted = λ e. clash false e refl; tidily = λ _. rw q.1 (ap Err q.2, (refl, λ w. refl), kept) }

-- the work buffer of an offset write that began: as long as before, and the same if it begins again
module _ (inPlace : Bool) (d : Bytes) (ps : List Patch) (old work : Bytes) (asks : patch_no inPlace d ps old (length work) ≡ None) where
  new_fits : lay_no d ps old (length work) ≡ None → length (laid_all d ps old) ≤ length work
  new_fits h = enough_from_room (length work) (length (laid_all d ps old)) (none_of_three (few ps) (places_inside (length d) 0 ps) (room (length work) (length (laid_all d ps old))) h).2

  pub worked-length : length (worked inPlace (laid_all d ps old) work) ≡ length work
  worked-length = go inPlace asks
    where
      go : (b : Bool) → patch_no b d ps old (length work) ≡ None → length (worked b (laid_all d ps old) work) ≡ length work
      go true h = refl
      go false h = length-fronted (laid_all d ps old) work (new_fits h)

  pub worked_again : worked inPlace (laid_all d ps old) (worked inPlace (laid_all d ps old) work) ≡ worked inPlace (laid_all d ps old) work
  worked_again = go inPlace
    where
      go : (b : Bool) → worked b (laid_all d ps old) (worked b (laid_all d ps old) work) ≡ worked b (laid_all d ps old) work
      go true = refl
      go false = fronted-fronted (laid_all d ps old) (laid_all d ps old) work (omega arith)
