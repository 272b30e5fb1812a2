use Rattle.std.proofs.Common.{refl}
use Rattle.keys.proofs.KeyExamples.{key_examples}
use Rattle.ranges.proofs.RangeExamples.{range_examples}
use Rattle.patches.proofs.PatchExamples.{patch_examples}
use Rattle.storage.proofs.examples.worked_examples.Goals as goal

pub returns : goal.returns
returns c = record { count = refl; hold = record { keys = key_examples; ranges = range_examples; patches = patch_examples } }
