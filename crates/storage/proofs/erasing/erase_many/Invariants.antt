use Rattle.storage.proofs.Erasures.{Erased}
use Rattle.storage.proofs.erasing.erase_many.Given as goal

abbrev pub invariant-loop-i : goal.invariant-loop-i
invariant-loop-i g l = Erased l.rows l.i-counter (g.S.ReadableStorageTraits.contents l.initial.store) (g.S.ReadableStorageTraits.contents l.store)
