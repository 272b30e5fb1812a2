-- The worked examples, in one list.
use Rattle.keys.specs.KeyExamples.{KeyExamples}
use Rattle.ranges.specs.Examples.{RangeExamples}
use Rattle.patches.specs.Examples.{PatchExamples}
use Rattle.listings.specs.ListingExamples.{ListingExamples}
use Rattle.runs.specs.RunExamples.{RunExamples}

pub record WorkedExamples : Type 0 where
  pub keys : KeyExamples
  pub ranges : RangeExamples
  pub patches : PatchExamples
  pub listings : ListingExamples
  pub runs : RunExamples
