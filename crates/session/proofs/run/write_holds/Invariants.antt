use Rattle.std.proofs.Common.{◌≡◌, vec_items}
use Rattle.session.proofs.Holds.{Sofar}
use Rattle.session.proofs.run.write_holds.Given as goal

-- the keys below the iterator's place are written
abbrev pub invariant-loop-key : goal.invariant-loop-key
invariant-loop-key g l =
    (goal.iterator-loop-key g).can_next l.key-iterator
    × (goal.iterator-loop-key g).is_finite l.key-iterator
    × (l.key-iterator.store.now ≡ l.store)
    × (l.count ≡ l.key-iterator.next)
    × Sofar (g.S.ReadableStorageTraits.contents l.store) l.key-iterator.next l.bytes (vec_items l.initial.out) (vec_items l.out)
