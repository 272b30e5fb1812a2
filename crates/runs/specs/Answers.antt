-- What the answer to a call says of what was stored when it was made.
--   FirstNo o r                the questions of an export decide; else it is done, or the store's fault, one layer deeper, at a step
--   Forwarded r                done, or the store's fault, one layer deeper
--   ByRows ws r                all rows are keys, and done; or one is refused, by its index: it is no key, or below
--   Answers n s a c            a answers s, through n layers, where c is stored
use Rattle.std.specs.Prelude.{◌≡◌, ℕ, ◌⊎◌, List, ◌∷◌, ◌++◌, length, Some, None, Ok, Err, Option, Result}
use Rattle.std.specs.List.{AllByRecursion}
use Rattle.keys.specs.Text.{Bytes}
use Rattle.keys.specs.Rows.{AsKey}
use Rattle.keys.specs.declared.row.Row.{Row}
use Rattle.keys.specs.declared.store_key.StoreKeyError.{StoreKeyError}
use Rattle.ranges.specs.Buffers.{fronted}
use Rattle.storage.specs.Contents.{Contents, found, bytes_of}
use Rattle.storage.specs.Erasures.{KeyRow}
use Rattle.storage.specs.Faults.{from_key, raised, at_step, at_index}
use Rattle.storage.specs.Writes.{patched as patchedValue}
use Rattle.storage.specs.declared.fault.Fault.{Fault}
use Rattle.atomic_write.specs.Exports.{export_no, patch_export_no}
use Rattle.runs.specs.Events.{Ask, set, patch, erase, erase_many, erase_prefix, power_on, read, Reply, wrote, patched, told, Readout}
use Rattle.runs.specs.Readings.{zeros, Reads}

abbrev pub FirstNo : Option Fault → Result (Unit {0}) Fault → Type 0
FirstNo (Some f) r = r ≡ Err f
FirstNo None (Ok u) = Unit {0}
FirstNo None (Err f) = (g : Fault) × ((f ≡ at_step 1 (raised g)) ⊎ (f ≡ at_step 2 (raised g)))

abbrev pub Forwarded : Result (Unit {0}) Fault → Type 0
Forwarded (Ok u) = Unit {0}
Forwarded (Err f) = (g : Fault) × (f ≡ raised g)

-- before patches are laid, the work buffer is as it was; else it has the new value at its front
abbrev pub Laid : Option Fault → Option Fault → Bytes → ℕ → Reply → Type 0
Laid (Some f) o new n a = a ≡ patched (Err f) (zeros n)
Laid None o new n a = (r : Result (Unit {0}) Fault) × (a ≡ patched r (fronted new (zeros n))) × FirstNo o r

-- the row w is refused with f, at its place
abbrev pub RowFault : Row → ℕ → Fault → Type 0
RowFault w i f = ((e : StoreKeyError) × AsKey w (Err e) × (f ≡ at_index i (from_key e))) ⊎ (KeyRow w × (g : Fault) × (f ≡ at_index i (raised g)))

abbrev pub ByRows : List Row → Result (Unit {0}) Fault → Type 0
ByRows ws (Ok u) = AllByRecursion KeyRow ws
ByRows ws (Err f) =
    (before : List Row) × (w : Row) × (behind : List Row) × (ws ≡ before ++ (w ∷ behind)) × AllByRecursion KeyRow before × RowFault w (length before) f

abbrev pub Answers : ℕ → Ask → Reply → Contents → Type 0
Answers n (set k v) a c = (r : Result (Unit {0}) Fault) × (a ≡ wrote r) × FirstNo (export_no k c) r
Answers n (patch k ps d m) a c = Laid (patch_export_no k d ps (bytes_of (found k c)) m) (export_no k c) (patchedValue k d ps c) m a
Answers n (erase k) a c = (r : Result (Unit {0}) Fault) × (a ≡ wrote r) × Forwarded r
Answers n (erase_many ws) a c = (r : Result (Unit {0}) Fault) × (a ≡ wrote r) × ByRows ws r
Answers n (erase_prefix p) a c = (r : Result (Unit {0}) Fault) × (a ≡ wrote r) × Forwarded r
Answers n power_on a c = a ≡ wrote (Ok tt)
Answers n (read q) a c = (x : Readout) × (a ≡ told x) × Reads n q c x
