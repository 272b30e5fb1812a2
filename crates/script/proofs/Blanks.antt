-- Blanks and words.
use Rattle.std.proofs.Common.{◌≡◌, ℕ, ◌<◌, Bool, true, false, length, Option, unwrap_or, refl, ◌∙◌, arith}
use Rattle.std.specs.List.{prefix_len, AllWithin, HoldsAt}
use Rattle.std.specs.Option.{MatchOption}
use Rattle.std.proofs.lemmas.Bool.{cond-true, cond-false}
use Rattle.std.proofs.lemmas.Iterator.{index_from_first}
use Rattle.script.specs.Words.{Bytes}

-- where a search for the first byte that p turns away ends
pub first_turned_away : (p : ℕ → Bool) (xs : Bytes) (r : Option ℕ) → MatchOption r (AllWithin (λ b. p b ≡ true) xs 0 (length xs)) (λ i. (i < length xs) × HoldsAt (λ b. p b ≡ false) xs i × AllWithin (λ b. p b ≡ true) xs 0 i) → prefix_len p xs ≡ unwrap_or r (length xs)
first_turned_away p = index_from_first (prefix_len p) (λ b. p b ≡ false) (λ b. p b ≡ true) refl (λ x xs e. cond-false (p x) _ _ e) (λ x xs e. cond-true (p x) _ _ e ∙ omega arith)
