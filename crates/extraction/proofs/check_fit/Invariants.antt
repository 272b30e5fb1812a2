use Rattle.std.proofs.Common.{◌≡◌, drop}
use Rattle.ranges.specs.Refusals.{all_fit}
use Rattle.extraction.proofs.check_fit.Given as goal

abbrev pub invariant-loop-i : goal.invariant-loop-i
invariant-loop-i l = all_fit l.n l.i (drop l.i l.ranges) ≡ all_fit l.n 0 l.ranges
