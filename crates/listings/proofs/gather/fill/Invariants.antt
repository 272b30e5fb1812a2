use Rattle.std.proofs.Common.{◌≡◌, take}
use Rattle.keys.specs.StorePrefixes.{prefix_text}
use Rattle.storage.specs.Contents.{keys_of}
use Rattle.listings.proofs.Fills.{Filling}
use Rattle.listings.proofs.gather.fill.Given as goal

-- what is gathered of the keys below the iterator's place stands at the front
abbrev pub invariant-loop-key : goal.invariant-loop-key
invariant-loop-key g l =
    (goal.iterator-loop-key g).can_next l.key-iterator
    × (goal.iterator-loop-key g).is_finite l.key-iterator
    × (l.key-iterator.store.now ≡ l.store)
    × Filling l.selection (prefix_text l.prefix) (take l.key-iterator.next (keys_of (g.S.ReadableStorageTraits.contents l.store))) l.initial.rows l.len l.rows
