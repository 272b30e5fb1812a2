use Rattle.std.proofs.Common.{rules}
use Rattle.keys.specs.StorePrefixes.{prefix_text}
use Rattle.storage.specs.Writes.{erase_prefix}
use Rattle.layers.proofs.Writes.{written_through}
use Rattle.layers.proofs.countdown.CountdownWritableStorageTraits.erase_prefix.Goals as goal

pub returns-clause-wrote : goal.returns-clause-wrote
returns-clause-wrote g c =
    written_through g.S.ReadableStorageTraits (erase_prefix (prefix_text c.args.prefix.now)) _ _ _ c.args.self.now c.written.new.self
    c.written.ensures (λ x x' a h. rw (← h.shows, ← h.leaves) (search (rules, h.met)))
