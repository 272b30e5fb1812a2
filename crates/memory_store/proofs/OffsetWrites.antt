-- Offset writes in place.
use Rattle.std.proofs.Common.{◌≡◌, ℕ, ◌<◌, ◌≤◌, Bool, true, false, ◌&&◌, eqb, ltb, leb, List, [], ◌∷◌, length, Some, None, Ok, Err, Option, Result, sym, refl, ap, ◌∙◌, arith}
use Rattle.std.proofs.lemmas.Bool.{lt-leb, ltb-true, eqb-true}
use Rattle.keys.specs.Text.{Bytes}
use Rattle.ranges.specs.Ranges.{only_if}
use Rattle.ranges.specs.Refusals.{Refusal, refusal, told, unless, few, room as asks-room}
use Rattle.ranges.proofs.Questions.{no_from_unless}
use Rattle.patches.specs.declared.Patch.{Patch}
use Rattle.patches.specs.declared.PatchError.{PatchError}
use Rattle.patches.specs.Patches.{patch_refusal, places_inside, patches_no, lay_no}
use Rattle.storage.specs.Contents.{Contents, Ascending, found, bytes_of, put, total}
use Rattle.storage.specs.Faults.{own}
use Rattle.storage.specs.Writes.{patch, patched, after, Settled, OffsetWritten}
use Rattle.storage.specs.declared.fault.Fault.{Fault}
use Rattle.storage.specs.declared.fault.Cause.TheVariants.{Full}
use Rattle.storage.proofs.Order.{clash}
use Rattle.storage.proofs.OffsetWrites.{third}
use Rattle.storage.proofs.Sizes.{put_absent, put_present, found_most}
use Rattle.memory_store.specs.declared.table.Table.{Table}
use Rattle.memory_store.specs.Tables.{Replaced, room, tabled}
use Rattle.memory_store.specs.Memory.{ruling}
use Rattle.memory_store.specs.Memories.{accepted, refused, replaced}

module _ (k d : Bytes) (ps : List Patch) (c c' : Contents) (work : Bytes) (asked : patches_no (length d) ps ≡ None) where
  -- its questions answered yes, it is a write as any other
  pub asked_yes : (r : Result (Unit {0}) Fault) → Settled true true (patch k d ps) r c c' (ruling c) (ruling c') → OffsetWritten true true k d ps r c c' (ruling c) (ruling c') work work
  asked_yes r s = record { accepted = λ h. (s.accepted h, refl); tidily = λ t. rw asked (s.tidily t, refl) }

-- no patch changes nothing
pub no_patches : (k d : Bytes) (ps : List Patch) (c : Contents) (work : Bytes) → patches_no (length d) ps ≡ None → true ≡ eqb (length ps) 0 → room c ≡ true → OffsetWritten {A = Unit {0}} true true k d ps (Ok tt) c c (ruling c) (ruling c) work work
no_patches k d [] c work asked e h = asked_yes k d [] c c work asked (Ok tt) (accepted c c (patch k d []) refl tt h refl)
no_patches k d (p ∷ ps) c work asked e h = let z = eqb-true (length (p ∷ ps)) 0 (sym e) in absurd (omega arith)

-- some patches put the new value
pub after_some : (k d : Bytes) (ps : List Patch) (c : Contents) → false ≡ eqb (length ps) 0 → after true (patch k d ps) c ≡ put k (patched k d ps c) c
after_some k d [] c e = clash false e refl
after_some k d (p ∷ ps) c e = refl

short_room : (have need : ℕ) (e : Refusal) → asks-room have need ≡ Some e → have < need
short_room have need e h = go (ltb have need) refl h
  where
    go : (t : Bool) → ltb have need ≡ t → only_if t (refusal 9) ≡ Some e → have < need
    go true l h = ltb-true have need l
    go false l h = absurd (let z : ◌≡◌ {A = ℕ} 0 1 = cc in omega arith)

and_false : (b : Bool) → (b && false) ≡ false
and_false true = refl
and_false false = refl

-- a value longer than all value bytes has no room
put_least : (k v : Bytes) (c : Contents) → Ascending c → length v ≤ total (put k v c)
put_least k v c up = go (found k c) refl
  where
    go : (o : Option Bytes) → found k c ≡ o → length v ≤ total (put k v c)
    go None e = omega (arith, (put_absent k v c up e).1)
    go (Some b) e = omega (arith, (put_present k v c b up e).1, found_most k c b up e)

module _ (k d : Bytes) (ps : List Patch) (c : Contents) (asked : patches_no (length d) ps ≡ None) (some : false ≡ eqb (length ps) 0) where
  -- the new value is longer than all value bytes: 8
  pub too_long : (work : Bytes) (e : PatchError) (f : Fault) → Ascending c → told {X = ℕ} patch_refusal (Err e) ≡ unless (lay_no d ps (bytes_of (found k c)) 32768) (length (patched k d ps c)) → f ≡ own Full → OffsetWritten {A = Unit {0}} true true k d ps (Err f) c c (ruling c) (ruling c) work work
  unfolding room
  too_long work e f up h is =
      let q = third (few ps) (places_inside (length d) 0 ps) (asks-room 32768 (length (patched k d ps c))) asked ∙ no_from_unless _ _ _ h in
      let long : 32768 < length (patched k d ps c) = short_room 32768 _ _ q in
      let least = put_least k (patched k d ps c) c up in
      let full : leb (total (put k (patched k d ps c) c)) 32768 ≡ false = lt-leb _ _ (omega (arith, long, least)) in
      rw is
      (asked_yes k d ps c c work asked _
      (refused c c (patch k d ps) refl (ap room (after_some k d ps c some) ∙ ap (λ (b : Bool). leb (length (put k (patched k d ps c) c)) 64 && b) full ∙ and_false _) refl))

-- the new value is put, by whether there is room for it
pub put_laid : (k d : Bytes) (ps : List Patch) (t t' : Table) (work v : Bytes) (r : Result (Unit {0}) Fault) → patches_no (length d) ps ≡ None → false ≡ eqb (length ps) 0 → v ≡ patched k d ps (tabled t) → Replaced r k v t t' → OffsetWritten true true k d ps r (tabled t) (tabled t') (ruling (tabled t)) (ruling (tabled t')) work work
put_laid k d ps t t' work v r asked some is h =
    asked_yes k d ps (tabled t) (tabled t') work asked r
    (replaced t t' (patch k d ps) k v r refl (after_some k d ps (tabled t) some ∙ ap (λ (b : Bytes). put k b (tabled t)) (sym is)) h)
