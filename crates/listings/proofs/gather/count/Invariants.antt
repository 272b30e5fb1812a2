use Rattle.std.proofs.Common.{◌≡◌, ◌≤◌, length, take}
use Rattle.keys.specs.StorePrefixes.{prefix_text}
use Rattle.storage.specs.Contents.{keys_of}
use Rattle.listings.proofs.Gathers.{Tallied}
use Rattle.listings.proofs.gather.count.Given as goal

-- the keys below the iterator's place are counted
abbrev pub invariant-loop-key : goal.invariant-loop-key
invariant-loop-key g l =
    (goal.iterator-loop-key g).can_next l.key-iterator
    × (goal.iterator-loop-key g).is_finite l.key-iterator
    × (l.key-iterator.store.now ≡ l.store)
    × (l.key-iterator.next ≤ length (keys_of (g.S.ReadableStorageTraits.contents l.store)))
    × (l.tally.count ≤ l.key-iterator.next)
    × Tallied l.selection (prefix_text l.prefix) (take l.key-iterator.next (keys_of (g.S.ReadableStorageTraits.contents l.store))) l.tally
