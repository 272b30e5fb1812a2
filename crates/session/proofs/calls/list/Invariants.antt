use Rattle.std.proofs.Common.{◌≡◌, map, take, vec_items}
use Rattle.keys.specs.StoreKeys.{text}
use Rattle.storage.specs.Contents.{keys_of}
use Rattle.session.proofs.calls.list.Given as goal

-- the keys below the iterator's place are taken
abbrev pub invariant-loop-key : goal.invariant-loop-key
invariant-loop-key g l =
    (goal.iterator-loop-key g).can_next l.key-iterator
    × (goal.iterator-loop-key g).is_finite l.key-iterator
    × (l.key-iterator.store.now ≡ l.store)
    × (map text (vec_items l.keys) ≡ take l.key-iterator.next (keys_of (g.S.ReadableStorageTraits.contents l.store)))
