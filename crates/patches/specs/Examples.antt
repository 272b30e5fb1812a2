-- Examples of patches, shown of the definitions.
use Rattle.std.specs.Prelude.{◌≡◌, ℕ, [], ◌∷◌}
use Rattle.patches.specs.declared.Patch.{Patch}
use Rattle.ranges.specs.Ranges.{Bytes}
use Rattle.patches.specs.Patches.{laid_all}

-- a patch that lays the first n bytes of the slice at an offset
abbrev pub first_at : ℕ → ℕ → Patch
first_at o n = record { offset = o; start = 0; len = n }

abbrev pub four : Bytes
four = 1 ∷ 2 ∷ 3 ∷ 4 ∷ []

pub record PatchExamples : Type 0 where
  -- an empty patch at 5 on nothing
  pub empty_patch : laid_all [] (first_at 5 0 ∷ []) [] ≡ 0 ∷ 0 ∷ 0 ∷ 0 ∷ 0 ∷ []
  -- 1, 2, 3, 4 patched at 1 with 9, and at 6 with 7
  pub patch_inside : laid_all (9 ∷ []) (first_at 1 1 ∷ []) four ≡ 1 ∷ 9 ∷ 3 ∷ 4 ∷ []
  pub patch_beyond : laid_all (7 ∷ []) (first_at 6 1 ∷ []) four ≡ 1 ∷ 2 ∷ 3 ∷ 4 ∷ 0 ∷ 0 ∷ 7 ∷ []
