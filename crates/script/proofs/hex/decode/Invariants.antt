use Rattle.std.proofs.Common.{◌≡◌, ◌++◌, vec_items}
use Rattle.script.specs.Hex.{unhex}
use Rattle.script.proofs.hex.decode.Given as goal

abbrev pub invariant-loop-pair : goal.invariant-loop-pair
invariant-loop-pair l = (vec_items l.out ++ unhex l.pair-iterator.rest.now ≡ unhex l.text) × (l.pair-iterator.size ≡ 2)
