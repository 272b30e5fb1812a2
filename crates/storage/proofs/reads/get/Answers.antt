use Rattle.std.proofs.Common.{refl}
use Rattle.storage.proofs.Readings.{value_read_lem}
use Rattle.storage.proofs.reads.get.Goals as goal

pub returns : goal.returns
returns g c = value_read_lem _ _ _ _ _ _ _ refl c.get_partial_many.ensures
