-- Patches, and what laying them on bytes means, with offsets as mathematical integers.
use Rattle.std.specs.Prelude.{ℕ, ◌+◌, ◌-◌, max, List, [], ◌∷◌, ◌++◌, length, take, drop, replicate, fold, Option, nat_le}
use Rattle.patches.specs.declared.Patch.{Patch}
use Rattle.ranges.specs.Ranges.{Bytes}
use Rattle.patches.specs.declared.PatchError.{PatchError}
use Rattle.patches.specs.declared.PatchError.TheVariants.{TooMany, Place, Short}
use Rattle.ranges.specs.Refusals.{refusal, Refusal, refusal_at, first_bad, first_no, few, room}

-- what refused patches say
abbrev pub patch_refusal : PatchError → Refusal
patch_refusal TooMany = refusal 6
patch_refusal (Place i) = refusal_at 6 i
patch_refusal Short = refusal 9

-- at least n bytes: zeros behind the old ones
unfoldable pub padded : ℕ → Bytes → Bytes
padded n b = b ++ replicate (n - length b) 0

-- the bytes of p over those of b from an offset on
unfoldable pub overlaid : ℕ → Bytes → Bytes → Bytes
overlaid o p b = take o b ++ (p ++ drop (o + length p) b)

-- one patch: zeros up to its end, then its bytes over them
unfoldable pub laid : ℕ → Bytes → Bytes → Bytes
laid o p b = overlaid o p (padded (o + length p) b)

-- the bytes of a patch, which lie in a slice beside it
abbrev pub patch_bytes : Bytes → Patch → Bytes
patch_bytes d p = take p.len (drop p.start d)

-- patches laid in turn
unfoldable pub laid_all : Bytes → List Patch → Bytes → Bytes
laid_all d ps b = fold (λ c p. laid p.offset (patch_bytes d p) c) b ps

-- how long n bytes are once the patches are laid
unfoldable pub patched_length : ℕ → List Patch → ℕ
patched_length n ps = fold (λ m p. max m (p.offset + p.len)) n ps

-- is each place, from index i on, inside a slice of n bytes? 6, at the first that is not
abbrev pub places_inside : ℕ → ℕ → List Patch → Option Refusal
places_inside n i ps = first_bad (λ p. nat_le (p.start + p.len) n) (λ j _. refusal_at 6 j) i ps

-- the questions about patches in a slice of n bytes
abbrev pub patches_no : ℕ → List Patch → Option Refusal
patches_no n ps = first_no (few ps ∷ places_inside n 0 ps ∷ [])

-- the questions before patches are laid on bytes that come beside the buffer, which has room for that many
abbrev pub lay_no : Bytes → List Patch → Bytes → ℕ → Option Refusal
lay_no d ps b space = first_no (few ps ∷ places_inside (length d) 0 ps ∷ room space (length (laid_all d ps b)) ∷ [])

-- the questions before patches are laid on the first n bytes of the buffer, which has room for that many
abbrev pub in_place_no : Bytes → List Patch → ℕ → ℕ → Option Refusal
in_place_no d ps n space = first_no (few ps ∷ places_inside (length d) 0 ps ∷ room space (patched_length n ps) ∷ [])
