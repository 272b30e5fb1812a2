-- The examples of ranges hold.
use Rattle.std.proofs.Common.{refl}
use Rattle.ranges.specs.Examples.{RangeExamples}
use Rattle.ranges.specs.Ranges.{picked}
use Rattle.ranges.specs.Refusals.{first_bad}

-- each by computation
pub range_examples : RangeExamples
unfolding picked first_bad
range_examples = record {
  suffix_unfit = refl;
  unfit_number = refl;
  rest_fits = refl;
  rest_empty = refl;
  excluded_included = refl;
  crossed_bounds = refl;
}
