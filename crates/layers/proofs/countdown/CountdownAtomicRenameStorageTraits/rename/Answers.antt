use Rattle.std.proofs.Common.{rules}
use Rattle.keys.specs.StoreKeys.{text}
use Rattle.storage.specs.Writes.{rename}
use Rattle.layers.proofs.Writes.{written_through}
use Rattle.layers.proofs.countdown.CountdownAtomicRenameStorageTraits.rename.Goals as goal

pub returns-clause-wrote : goal.returns-clause-wrote
returns-clause-wrote g c =
    written_through g.S.ReadableStorageTraits (rename (text c.args.source.now) (text c.args.destination.now)) _ _ _ c.args.self.now c.written.new.self
    c.written.ensures (λ x x' a h. rw (← h.shows, ← h.leaves) (search (rules, h.met)))
