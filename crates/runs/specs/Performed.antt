-- What a call of the adapter over a tidy store leaves there, for each answer that the verdict allows.
--   ExportLeft, PatchLeft      an export of a value, of patches
--   EraseLeft, ManyLeft        an erasure, an erase_many
--   Performed n s a c c'       the call s through n layers, answered a, found the contents c and left c'
--   Ran n c h c'               the run h, call by call
--   Tried m s t t' r           the call s of an adapter over the store t, or want of memory for its answer
use Rattle.std.specs.Prelude.{◌≡◌, ℕ, suc, Bool, true, List, [], ◌∷◌, ◌++◌, length, Some, None, Ok, Err, Result}
use Rattle.std.specs.List.{AllByRecursion}
use Rattle.keys.specs.Text.{Bytes}
use Rattle.keys.specs.Rows.{AsKey}
use Rattle.keys.specs.declared.row.Row.{Row}
use Rattle.keys.specs.declared.store_key.StoreKeyError.{StoreKeyError}
use Rattle.ranges.specs.Buffers.{fronted}
use Rattle.patches.specs.Patches.{laid_all}
use Rattle.patches.specs.declared.Patch.{Patch}
use Rattle.storage.specs.Contents.{Contents, same, under, found, bytes_of, put, without}
use Rattle.storage.specs.Faults.{from_key, raised, at_step, at_index}
use Rattle.storage.specs.Erasures.{KeyRow, named}
use Rattle.storage.specs.declared.fault.Fault.{Fault}
use Rattle.atomic_write.specs.Exports.{temporary, export_no, patch_export_no}
use Rattle.storage.specs.declared.storage_sync.ReadableStorageTraits.{Ghosts}
use Rattle.std.specs.declared.alloc.AllocError.{AllocError}
use Rattle.runs.specs.declared.call.Answer.{Answer}
use Rattle.runs.specs.Events.{said, Ask, set, patch, erase, erase_many, erase_prefix, power_on, read, Reply, wrote, patched, told, Readout, Event, Run}
use Rattle.runs.specs.Readings.{zeros, Reads}

-- an export of v under k, by its answer
pub data ExportLeft (k v : Bytes) (c c' : Contents) : Result (Unit {0}) Fault → Type 0 where
  -- a question was answered no, and nothing written
  refused : (f : Fault) → export_no k c ≡ Some f → c' ≡ c → ExportLeft k v c c' (Err f)
  -- the store below refused the temporary key, and nothing is written
  unbegun : (f : Fault) → export_no k c ≡ None → c' ≡ c → ExportLeft k v c c' (Err (at_step 1 (raised f)))
  -- it refused the rename: the temporary key stands
  unfinished : (f : Fault) → export_no k c ≡ None → c' ≡ put (temporary k) v c → ExportLeft k v c c' (Err (at_step 2 (raised f)))
  finished : export_no k c ≡ None → c' ≡ put k v c → ExportLeft k v c c' (Ok tt)

-- an export of what patches make of the value under k, by its answer and the work buffer
pub data PatchLeft (k : Bytes) (ps : List Patch) (d : Bytes) (n : ℕ) (c c' : Contents) : Reply → Type 0 where
  -- a question was answered no before the value was built: the buffer is as it was
  asked : (f : Fault) → patch_export_no k d ps (bytes_of (found k c)) n ≡ Some f → c' ≡ c → PatchLeft k ps d n c c' (patched (Err f) (zeros n))
  -- else it has the new value at its front
  tried :
      {r : Result (Unit {0}) Fault}
      → patch_export_no k d ps (bytes_of (found k c)) n ≡ None
      → ExportLeft k (laid_all d ps (bytes_of (found k c))) c c' r
      → PatchLeft k ps d n c c' (patched r (fronted (laid_all d ps (bytes_of (found k c))) (zeros n)))

-- an erasure of the keys that pass t: done, or refused by the store below
pub data EraseLeft (t : Bytes → Bool) (c c' : Contents) : Reply → Type 0 where
  erased : c' ≡ without t c → EraseLeft t c c' (wrote (Ok tt))
  kept : (f : Fault) → c' ≡ c → EraseLeft t c c' (wrote (Err (raised f)))

-- why the erasure of a row is refused: it is no key, 3 or 1; or it is one, and the store below refused
pub data RowNo (w : Row) : Fault → Type 0 where
  no_key : (e : StoreKeyError) → AsKey w (Err e) → RowNo w (from_key e)
  below : (f : Fault) → KeyRow w → RowNo w (raised f)

-- an erasure of rows in turn: all are keys, and erased; or one is refused, those before it being keys, and erased
pub data ManyLeft (ws : List Row) (c c' : Contents) : Reply → Type 0 where
  all : AllByRecursion KeyRow ws → c' ≡ without (named ws) c → ManyLeft ws c c' (wrote (Ok tt))
  stopped :
      (before : List Row) (w : Row) (behind : List Row) (f : Fault)
      → ws ≡ before ++ (w ∷ behind)
      → AllByRecursion KeyRow before
      → RowNo w f
      → c' ≡ without (named before) c
      → ManyLeft ws c c' (wrote (Err (at_index (length before) f)))

abbrev pub Performed : ℕ → Ask → Reply → Contents → Contents → Type 0
Performed n (set k v) a c c' = (r : Result (Unit {0}) Fault) × (a ≡ wrote r) × ExportLeft k v c c' r
Performed n (patch k ps d m) a c c' = PatchLeft k ps d m c c' a
Performed n (erase k) a c c' = EraseLeft (λ j. same j k) c c' a
Performed n (erase_many rs) a c c' = ManyLeft rs c c' a
Performed n (erase_prefix p) a c c' = EraseLeft (under p) c c' a
Performed n power_on a c c' = (a ≡ wrote (Ok tt)) × (c' ≡ c)
Performed n (read q) a c c' = (x : Readout) × (a ≡ told x) × Reads n q c x × (c' ≡ c)

pub data Ran (n : ℕ) : Contents → Run → Contents → Type 0 where
  idle : {c : Contents} → Ran n c [] c
  next : {c c' c'' : Contents} {e : Event} {h : Run} → Performed n e.ask e.reply c c' → Ran n c' h c'' → Ran n c (e ∷ h) c''

-- a call of an adapter over the store t, which left it as t', and its answer: what a tidy store's adapter owes; for want of memory nothing is called
abbrev pub Tried : {S : Type 0} → Ghosts S → Ask → S → S → Result Answer AllocError → Type 0
Tried m s t t' (Ok a) = m.tidy ≡ true → Performed (suc m.layers) s (said a) (m.contents t) (m.contents t')
Tried m s t t' (Err e) = t' ≡ t
