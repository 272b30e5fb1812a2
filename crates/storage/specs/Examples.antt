-- The worked examples, in one list.
use Rattle.keys.specs.KeyExamples.{KeyExamples}
use Rattle.ranges.specs.Examples.{RangeExamples}
use Rattle.patches.specs.Examples.{PatchExamples}

pub record WorkedExamples : Type 0 where
  pub keys : KeyExamples
  pub ranges : RangeExamples
  pub patches : PatchExamples
