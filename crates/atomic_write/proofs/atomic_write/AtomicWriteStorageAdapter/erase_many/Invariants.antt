use Rattle.storage.proofs.Erasures.{Erased}
use Rattle.atomic_write.proofs.atomic_write.AtomicWriteStorageAdapter.erase_many.Given as goal

abbrev pub invariant-loop-i : goal.invariant-loop-i
invariant-loop-i g l = Erased l.rows l.i-counter (g.S.ReadableStorageTraits.contents l.initial.self.storage) (g.S.ReadableStorageTraits.contents l.self.storage)
