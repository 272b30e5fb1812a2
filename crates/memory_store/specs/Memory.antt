-- What a MemoryStore means.
--   holds m                    its contents
--   ruling c w                 its verdict on a write: no source for a rename, no room after the write, or none
use Rattle.std.specs.Prelude.{Bool, true, false, cond, not, is_some, Some, None, Option}
use Rattle.storage.specs.Contents.{Contents, found}
use Rattle.storage.specs.Faults.{own}
use Rattle.storage.specs.Writes.{Write, set, patch, erase, erase_prefix, rename, after}
use Rattle.storage.specs.declared.fault.Fault.{Fault}
use Rattle.storage.specs.declared.fault.Cause.TheVariants.{Absent, Full}
use Rattle.memory_store.specs.declared.memory_store.MemoryStore.{MemoryStore}
use Rattle.memory_store.specs.Tables.{room, tabled}

abbrev pub holds : MemoryStore → Contents
holds m = tabled m.table

-- a rename that finds nothing to move
abbrev pub sourceless : Write → Contents → Bool
sourceless (set k v) c = false
sourceless (patch k d ps) c = false
sourceless (erase k) c = false
sourceless (erase_prefix p) c = false
sourceless (rename a b) c = not (is_some (found a c))

abbrev pub ruling : Contents → Write → Option Fault
ruling c w = cond (sourceless w c) (Some (own Absent)) (cond (room (after true w c)) None (Some (own Full)))
