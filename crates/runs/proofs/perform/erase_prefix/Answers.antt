use Rattle.std.proofs.Common.{refl}
use Rattle.keys.specs.StorePrefixes.{prefix_text}
use Rattle.storage.specs.Writes.{erase_prefix}
use Rattle.runs.proofs.Answered.{erase_left}
use Rattle.runs.proofs.perform.erase_prefix.Goals as goal

pub returns : goal.returns
returns g c tidy = erase_left g.S.ReadableStorageTraits c.args.adapter.now c.erase_prefix.new.self tidy _ (erase_prefix (prefix_text c.args.prefix.now)) c.erase_prefix.result refl c.erase_prefix.ensures.forwarded
