use Rattle.std.proofs.Common.{rules}
use Rattle.keys.specs.StoreKeys.{text}
use Rattle.storage.specs.Writes.{set}
use Rattle.layers.proofs.Writes.{written_through}
use Rattle.layers.proofs.countdown.CountdownWritableStorageTraits.set.Goals as goal

pub returns-clause-wrote : goal.returns-clause-wrote
returns-clause-wrote g c =
    written_through g.S.ReadableStorageTraits (set (text c.args.key.now) c.args.value.now) _ _ _ c.args.self.now c.written.new.self
    c.written.ensures (λ x x' a h. rw (← h.shows, ← h.leaves) (search (rules, h.met)))
