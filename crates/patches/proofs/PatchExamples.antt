-- The examples of patches hold.
use Rattle.std.proofs.Common.{refl}
use Rattle.patches.specs.Examples.{PatchExamples}
use Rattle.patches.specs.Patches.{padded, overlaid, laid, laid_all}

-- each by computation
pub patch_examples : PatchExamples
unfolding padded overlaid laid laid_all
patch_examples = record {
  empty_patch = refl;
  patch_inside = refl;
  patch_beyond = refl;
}
