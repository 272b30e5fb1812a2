use Rattle.std.proofs.Common.{◌≡◌, take, filter}
use Rattle.keys.specs.StorePrefixes.{prefix_text}
use Rattle.storage.specs.Contents.{total, under}
use Rattle.listings.proofs.listing.added.Given as goal

-- the values of the keys below the iterator's place are added
abbrev pub invariant-loop-key : goal.invariant-loop-key
invariant-loop-key g l =
    (goal.iterator-loop-key g).can_next l.key-iterator
    × (goal.iterator-loop-key g).is_finite l.key-iterator
    × (l.key-iterator.store.now ≡ l.store)
    × (l.size ≡ total (filter (λ e. under (prefix_text l.prefix) e.key) (take l.key-iterator.next (g.S.ReadableStorageTraits.contents l.store))))
