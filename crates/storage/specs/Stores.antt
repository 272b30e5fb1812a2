-- A store's calls, said of its meaning: the ghost members of the readable trait.
use Rattle.std.specs.Prelude.{◌≡◌, ℕ, List, length, Some, None, Err, Option, Result, MatchResult}
use Rattle.keys.specs.Text.{Bytes}
use Rattle.patches.specs.declared.Patch.{Patch}
use Rattle.patches.specs.Patches.{lay_no}
use Rattle.ranges.specs.Buffers.{fronted}
use Rattle.ranges.specs.Refusals.{Refusal}
use Rattle.storage.specs.declared.fault.Fault.{Fault}
use Rattle.storage.specs.declared.storage_sync.ReadableStorageTraits.{Ghosts}
use Rattle.storage.specs.Contents.{found, bytes_of}
use Rattle.storage.specs.Faults.{fault_of}
use Rattle.storage.specs.Writes.{Write, set, patched, Unchanged, Settled, OffsetWritten}
use Rattle.storage.specs.Readings.{ValueRead}

-- the bytes of the value under k, none where it is not stored
abbrev pub value_in : {S : Type 0} → Ghosts S → Bytes → S → Bytes
value_in m k s = bytes_of (found k (m.contents s))

-- what the patches ps, whose bytes lie in d, make of it
abbrev pub patched_in : {S : Type 0} → Ghosts S → Bytes → Bytes → List Patch → S → Bytes
patched_in m k d ps s = patched k d ps (m.contents s)

-- a write, its answer, and the store before and after
abbrev pub Wrote : {S A : Type 0} → Ghosts S → Write → Result A Fault → S → S → Type 0
Wrote m w r s s' = Settled m.tidy m.inplace w r (m.contents s) (m.contents s') (m.verdict s) (m.verdict s')

-- an offset write, also with the work buffer before and after
abbrev pub WroteAt : {S A : Type 0} → Ghosts S → Bytes → Bytes → List Patch → Result A Fault → S → S → Bytes → Bytes → Type 0
WroteAt m k d ps r s s' work work' =
    OffsetWritten m.tidy m.inplace k d ps r (m.contents s) (m.contents s') (m.verdict s) (m.verdict s') work work'

-- a write of a new value that is built in the work buffer: refused by a question, all is unchanged; else the value stands at the buffer's front, and is written
abbrev pub Built : {S A : Type 0} → Ghosts S → Option Refusal → Write → Bytes → Result A Fault → S → S → Bytes → Bytes → Type 0
Built m (Some q) w new r s s' work work' = (r ≡ Err (fault_of q)) × Unchanged (m.contents s) (m.contents s') (m.verdict s) (m.verdict s') × (work' ≡ work)
Built m None w new r s s' work work' = Wrote m w r s s' × (work' ≡ fronted new work)

-- an offset write through `set`: the questions are those of an offset write with a work buffer
abbrev pub WrotePatched : {S A : Type 0} → Ghosts S → Bytes → Bytes → List Patch → Result A Fault → S → S → Bytes → Bytes → Type 0
WrotePatched m k d ps r s s' work work' =
    Built m (lay_no d ps (bytes_of (found k (m.contents s))) (length work)) (set k (patched k d ps (m.contents s))) (patched k d ps (m.contents s)) r s s' work work'

-- a value set and read back: refused, nothing is read; accepted, it is the value itself that is read, whatever lies between
pub record ReadBack {S : Type 0} (m : Ghosts S) (k v : Bytes) (r : Result (Option ℕ) Fault) (s s' : S) (out out' : Bytes) : Type 0 where
  pub written : Result (Unit {0}) Fault
  pub wrote : Wrote m (set k v) written s s'
  pub read : MatchResult written (λ _. ValueRead m.layers (Some v) r out out') (λ f. (r ≡ Err f) × (out' ≡ out))
