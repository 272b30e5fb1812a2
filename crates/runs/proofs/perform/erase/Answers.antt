use Rattle.std.proofs.Common.{refl}
use Rattle.keys.specs.StoreKeys.{text}
use Rattle.storage.specs.Writes.{erase}
use Rattle.runs.proofs.Answered.{erase_left}
use Rattle.runs.proofs.perform.erase.Goals as goal

pub returns : goal.returns
returns g c tidy = erase_left g.S.ReadableStorageTraits c.args.adapter.now c.erase.new.self tidy _ (erase (text c.args.key.now)) c.erase.result refl c.erase.ensures.forwarded
