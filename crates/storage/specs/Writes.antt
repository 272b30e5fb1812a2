-- What a write does, and what a store promises of it.
--   Write                      a write whose arguments pass
--   after b w c                the contents that it leaves; b tells whether offset writes are made in place
--   Verdict                    for each write the fault that it would get now, or none
--   Settled                    what the answer of a write says of contents and verdict
--   patch_no, OffsetWritten    the questions of an offset write; what its answer says, of the work buffer too
use Rattle.std.specs.Prelude.{◌≡◌, ℕ, Bool, true, false, List, [], ◌∷◌, length, is_ok, Some, None, Err, Option, Result, MatchResult}
use Rattle.keys.specs.Text.{Bytes}
use Rattle.patches.specs.declared.Patch.{Patch}
use Rattle.ranges.specs.Buffers.{fronted}
use Rattle.patches.specs.Patches.{laid_all, patches_no, lay_no}
use Rattle.ranges.specs.Refusals.{Refusal}
use Rattle.storage.specs.declared.fault.Fault.{Fault}
use Rattle.storage.specs.Contents.{Contents, same, under, found, bytes_of, put, without, moved}
use Rattle.storage.specs.Faults.{fault_of}

-- patch k d ps lays the patches ps, whose bytes lie in d, on the value under k
pub data Write : Type 0 where
  set : Bytes → Bytes → Write
  patch : Bytes → Bytes → List Patch → Write
  erase : Bytes → Write
  erase_prefix : Bytes → Write
  rename : Bytes → Bytes → Write

-- what patches make of the value under k
abbrev pub patched : Bytes → Bytes → List Patch → Contents → Bytes
patched k d ps c = laid_all d ps (bytes_of (found k c))

-- no patch in place leaves all as it was; through a work buffer it stores an absent key as empty
abbrev pub after_patch : Bool → Bytes → Bytes → List Patch → Contents → Contents
after_patch true k d [] c = c
after_patch true k d (p ∷ ps) c = put k (patched k d (p ∷ ps) c) c
after_patch false k d ps c = put k (patched k d ps c) c

abbrev pub after : Bool → Write → Contents → Contents
after b (set k v) c = put k v c
after b (patch k d ps) c = after_patch b k d ps c
after b (erase k) c = without (λ j. same j k) c
after b (erase_prefix p) c = without (under p) c
after b (rename j k) c = moved j k c

abbrev pub Verdict : Type 0
Verdict = Write → Option Fault

-- contents and the verdict of every write are as before
abbrev pub Unchanged : Contents → Contents → Verdict → Verdict → Type 0
Unchanged c c' v v' = (c' ≡ c) × ((w : Write) → v' w ≡ v w)

-- accepted, where the verdict is none; else refused with the verdict's fault, and unchanged
abbrev pub Ruled : {A : Type 0} → Write → Result A Fault → Contents → Contents → Verdict → Verdict → Type 0
Ruled w r c c' v v' = MatchResult r (λ _. v w ≡ None) (λ f. (v w ≡ Some f) × Unchanged c c' v v')

-- every store: an accepted write leaves the contents as the write says; a tidy store: its verdict alone decides
pub record Settled {A : Type 0} (tidy inPlace : Bool) (w : Write) (r : Result A Fault) (c c' : Contents) (v v' : Verdict) : Type 0 where
  pub accepted : is_ok r ≡ true → c' ≡ after inPlace w c
  pub tidily : tidy ≡ true → Ruled w r c c' v v'

-- the questions of an offset write: at most 64 patches, each place inside the slice, 6; through a work buffer, room there for the new value, 9
abbrev pub patch_no : Bool → Bytes → List Patch → Bytes → ℕ → Option Refusal
patch_no true d ps old space = patches_no (length d) ps
patch_no false d ps old space = lay_no d ps old space

-- refused by a question, all is unchanged; else its verdict decides, and the work buffer, where it is used, has the new value at its front
abbrev pub Asked : {A : Type 0} → Option Refusal → Write → Bytes → Result A Fault → Contents → Contents → Verdict → Verdict → Bytes → Bytes → Type 0
Asked (Some q) w new r c c' v v' work work' = (r ≡ Err (fault_of q)) × Unchanged c c' v v' × (work' ≡ work)
Asked None w new r c c' v v' work work' = Ruled w r c c' v v' × (work' ≡ new)

-- what the work buffer holds once an offset write was tried
abbrev pub worked : Bool → Bytes → Bytes → Bytes
worked true new work = work
worked false new work = fronted new work

pub record OffsetWritten {A : Type 0} (tidy inPlace : Bool) (k d : Bytes) (ps : List Patch) (r : Result A Fault) (c c' : Contents) (v v' : Verdict) (work work' : Bytes) : Type 0 where
  pub accepted : is_ok r ≡ true → (c' ≡ after inPlace (patch k d ps) c) × (work' ≡ worked inPlace (patched k d ps c) work)
  pub tidily : tidy ≡ true → Asked (patch_no inPlace d ps (bytes_of (found k c)) (length work)) (patch k d ps) (worked inPlace (patched k d ps c) work) r c c' v v' work work'
