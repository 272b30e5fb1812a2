use Rattle.std.proofs.Common.{refl}
use Rattle.keys.specs.StorePrefixes.{prefix_text}
use Rattle.storage.specs.Writes.{erase_prefix}
use Rattle.memory_store.specs.Memories.{table-room, accepted}
use Rattle.memory_store.proofs.memory_store.writable.MemoryStoreWritableStorageTraits.erase_prefix.Goals as goal

pub returns : goal.returns
returns c = accepted _ _ (erase_prefix (prefix_text c.args.prefix.now)) refl tt (table-room c.remove_prefix.new.self) c.remove_prefix.ensures
