use Rattle.std.proofs.Common.{arith}
use Rattle.std.proofs.lemmas.Bool.Decides.{nat_tests}
use Rattle.std.proofs.lemmas.Grind.{common_steps}
use Rattle.script.specs.Values.{value_said}
use Rattle.script.proofs.value.value_of.Goals as goal

pub returns-in-34 : goal.returns-in-34
unfolding value_said
returns-in-34 c = grind (arith, nat_tests, common_steps)

pub returns-in-120 : goal.returns-in-120
unfolding value_said
returns-in-120 c = grind (arith, nat_tests, common_steps)

pub returns-in_default : goal.returns-in_default
unfolding value_said
returns-in_default c = grind (arith, nat_tests, common_steps)
