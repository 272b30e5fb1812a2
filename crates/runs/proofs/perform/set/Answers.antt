use Rattle.std.proofs.Common.{refl}
use Rattle.runs.proofs.Answered.{export_left}
use Rattle.runs.proofs.perform.set.Goals as goal

pub returns : goal.returns
returns g c tidy = (c.set.result, refl, export_left (c.set.ensures.exported tidy))
