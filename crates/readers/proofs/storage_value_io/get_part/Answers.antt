use Rattle.readers.proofs.OneRange.{part-read}
use Rattle.readers.proofs.storage_value_io.get_part.Goals as goal

pub returns : goal.returns
returns g c = let h = part-read _ _ _ _ _ _ c.get_partial.ensures in record { answer = h.0; output = h.1 }
