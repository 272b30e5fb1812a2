-- Examples of ranges, shown of the definitions.
use Rattle.std.specs.Prelude.{◌≡◌, true, [], ◌∷◌, Some, None, Err}
use Rattle.std.specs.Option.{ok_or}
use Rattle.std.specs.declared.ops.Bound.TheVariants.{Included, Excluded}
use Rattle.ranges.specs.declared.byte_range.ByteRange.TheVariants.{FromStart, Suffix}
use Rattle.ranges.specs.Ranges.{bounded, fitting, picked}
use Rattle.ranges.specs.Refusals.{refusal, unfit, all_fit}

pub record RangeExamples : Type 0 where
  -- of 3 bytes a suffix of 4 gives 4
  pub suffix_unfit : all_fit 3 0 (Suffix 4 ∷ []) ≡ Some (unfit 0 (Suffix 4) 3)
  pub unfit_number : (unfit 0 (Suffix 4) 3).number ≡ 4
  -- of 3 bytes the range from 3 on fits and is empty
  pub rest_fits : fitting (FromStart 3 None) 3 ≡ true
  pub rest_empty : picked (1 ∷ 2 ∷ 3 ∷ []) (FromStart 3 None) ≡ []
  -- excluded 2, included 2 is the empty range from 3; included 5, included 4 gives 6
  pub excluded_included : bounded (Excluded 2) (Included 2) ≡ Some (FromStart 3 (Some 0))
  pub crossed_bounds : ok_or (bounded (Included 5) (Included 4)) (refusal 6) ≡ Err (refusal 6)
