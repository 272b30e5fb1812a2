use Rattle.std.proofs.Common.{refl}
use Rattle.keys.specs.StoreKeys.{text}
use Rattle.storage.specs.Writes.{erase}
use Rattle.memory_store.specs.Memories.{table-room, accepted}
use Rattle.memory_store.proofs.memory_store.writable.MemoryStoreWritableStorageTraits.erase.Goals as goal

pub returns : goal.returns
returns c = accepted _ _ (erase (text c.args.key.now)) refl tt (table-room c.remove.new.self) c.remove.ensures
