-- The export of a value through the temporary key.
--   temporary k                the temporary key of k
--   TemporaryKey k r           what asking for it answers
--   export_no k c              the questions of an export, before it writes: root, 12; length of the temporary key, 3; temporary key absent, 7
--   Exported                   what an export leaves, by its answer
--   patch_export_no            the questions of an export of patches, before its value is built
--   PatchExported              what it leaves, in the work buffer too
use Rattle.std.specs.Prelude.{◌≡◌, ℕ, Bool, cond, List, [], ◌∷◌, ◌++◌, length, is_some, Some, None, Ok, Err, Option, Result, ◌==◌, nat_lt}
use Rattle.std.specs.Option.{option_map}
use Rattle.keys.specs.Text.{Bytes}
use Rattle.keys.specs.StoreKeys.{text}
use Rattle.keys.specs.declared.store_key.StoreKey.{StoreKey}
use Rattle.keys.specs.declared.store_key.StoreKeyError.TheVariants.{TooLong}
use Rattle.patches.specs.declared.Patch.{Patch}
use Rattle.patches.specs.Patches.{lay_no}
use Rattle.ranges.specs.Buffers.{fronted}
use Rattle.storage.specs.Contents.{Contents, found, bytes_of, put}
use Rattle.storage.specs.Faults.{own, from_key, raised, at_step, fault_of}
use Rattle.storage.specs.Writes.{Verdict, Unchanged, set, patched}
use Rattle.storage.specs.declared.fault.Fault.{Fault}
use Rattle.storage.specs.declared.fault.Cause.TheVariants.{Root, Exists}
use Rattle.storage.specs.declared.storage_sync.ReadableStorageTraits.{Ghosts}

-- ".tmp"
abbrev pub suffix : Bytes
suffix = 46 ∷ 116 ∷ 109 ∷ 112 ∷ []

unfoldable pub temporary : Bytes → Bytes
temporary k = k ++ suffix

-- is the key other than root? 12. Has its temporary key at most 120 bytes? 3
abbrev pub temporary_no : Bytes → Option Fault
temporary_no k =
    cond (length k == 0) (Some (own Root)) (cond (nat_lt 120 (length (temporary k))) (Some (from_key TooLong)) None)

-- the temporary key, or the first no
abbrev pub TemporaryKey : Bytes → Result StoreKey Fault → Type 0
TemporaryKey k (Ok t) = (temporary_no k ≡ None) × (text t ≡ temporary k)
TemporaryKey k (Err f) = temporary_no k ≡ Some f

-- the first no of two
abbrev pub or_else : Option Fault → Option Fault → Option Fault
or_else (Some f) o = Some f
or_else None o = o

-- is the temporary key absent? 7
abbrev pub standing_no : Bool → Option Fault
standing_no b = cond b (Some (own Exists)) None

-- the questions of an export
abbrev pub export_no : Bytes → Contents → Option Fault
export_no k c = or_else (temporary_no k) (standing_no (is_some (found (temporary k) c)))

-- what an export of v under k over a tidy store leaves there, by its answer
pub data Exported {S : Type 0} (m : Ghosts S) (k v : Bytes) (s s' : S) : Result (Unit {0}) Fault → Type 0 where
  -- a question was answered no: the adapter's own fault, and nothing written
  refused : (f : Fault) → export_no k (m.contents s) ≡ Some f → s' ≡ s → Exported m k v s s' (Err f)
  -- the store below refused the temporary key: its fault, one layer deeper, at step 1, and nothing written
  unbegun :
      (f : Fault)
      → export_no k (m.contents s) ≡ None
      → m.verdict s (set (temporary k) v) ≡ Some f
      → Unchanged (m.contents s) (m.contents s') (m.verdict s) (m.verdict s')
      → Exported m k v s s' (Err (at_step 1 (raised f)))
  -- it refused the rename: its fault, one layer deeper, at step 2, and the temporary key stands
  unfinished :
      (f : Fault)
      → export_no k (m.contents s) ≡ None
      → m.verdict s (set (temporary k) v) ≡ None
      → m.contents s' ≡ put (temporary k) v (m.contents s)
      → Exported m k v s s' (Err (at_step 2 (raised f)))
  -- done: k holds v, and all else is as it was
  finished :
      export_no k (m.contents s) ≡ None
      → m.verdict s (set (temporary k) v) ≡ None
      → m.contents s' ≡ put k v (m.contents s)
      → Exported m k v s s' (Ok tt)

-- the questions of an export of patches on the old bytes, with that much room in the work buffer: root, 12; length of the temporary key, 3; patches and their places, 6; room, 9
abbrev pub patch_export_no : Bytes → Bytes → List Patch → Bytes → ℕ → Option Fault
patch_export_no k d ps old space = or_else (temporary_no k) (option_map fault_of (lay_no d ps old space))

-- refused by these, nothing changes; else the new value stands at the front of the work buffer, and is exported
abbrev pub LaidAndExported : {S : Type 0} → Option Fault → Ghosts S → Bytes → Bytes → S → S → Bytes → Bytes → Result (Unit {0}) Fault → Type 0
LaidAndExported (Some f) m k new s s' work work' r = (r ≡ Err f) × (s' ≡ s) × (work' ≡ work)
LaidAndExported None m k new s s' work work' r = Exported m k new s s' r × (work' ≡ fronted new work)

-- what an export of patches over a tidy store leaves there and in the work buffer, by its answer
abbrev pub PatchExported : {S : Type 0} → Ghosts S → Bytes → Bytes → List Patch → S → S → Bytes → Bytes → Result (Unit {0}) Fault → Type 0
PatchExported m k d ps s s' work work' r =
    LaidAndExported (patch_export_no k d ps (bytes_of (found k (m.contents s))) (length work)) m k (patched k d ps (m.contents s)) s s' work work' r

-- the verdict of a layer that passes the store's faults up
abbrev pub raised_verdict : Verdict → Verdict
raised_verdict v w = option_map raised (v w)
