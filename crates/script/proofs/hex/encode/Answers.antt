use Rattle.std.proofs.Common.{arith}
use Rattle.std.proofs.lemmas.Grind.{common_steps}
use Rattle.script.specs.Hex.{hex}
use Rattle.script.proofs.hex.encode.Goals as goal

pub loop-b-init : goal.loop-b-init
unfolding hex
loop-b-init c = grind (arith, common_steps)

pub loop-b-preserved : goal.loop-b-preserved
unfolding hex
loop-b-preserved c = grind (arith, common_steps)

pub returns : goal.returns
unfolding hex
returns c = grind (arith, common_steps)
