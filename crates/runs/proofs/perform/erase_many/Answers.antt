use Rattle.runs.proofs.Answered.{many_left}
use Rattle.runs.proofs.perform.erase_many.Goals as goal

pub returns : goal.returns
returns g c tidy = many_left g.S.ReadableStorageTraits c.args.adapter.now c.erase_many.new.self tidy c.args.rows.now c.erase_many.result c.erase_many.ensures
