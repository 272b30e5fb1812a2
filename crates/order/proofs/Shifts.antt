-- A part of a list moved up by one place, and an element put where it stood.
use Rattle.std.proofs.Common.{◌≡◌, ℕ, ◌+◌, ◌-◌, ◌<◌, ◌≤◌, List, [], ◌∷◌, ◌++◌, get_or, length, take, drop, set, ap, ◌∙◌, append_assoc, arith}
use Rattle.std.specs.List.{between, copy_within}
use Rattle.std.proofs.lemmas.List.{take_more, set_at, length-take-le}

module _ {X : Type 0} where
  -- a write to the last element of a front
  pub write_last : (s r : List X) (i : ℕ) (x : X) → i < length s → set (take (i + 1) s ++ r) i x ≡ take i s ++ (x ∷ r)
  write_last s r i x h =
      ap (λ z. set (z ++ r) i x) (take_more s i x h)
      ∙ ap (λ z. set z i x) (append_assoc (take i s) (get_or s i x ∷ []) r)
      ∙ set_at (take i s) (get_or s i x) r x i (length-take-le i s (omega arith))

  pub put_after_shift : (s : List X) (place n : ℕ) (x : X) → place ≤ n → n < length s → set (copy_within s place n (place + 1)) place x ≡ take place s ++ (x ∷ (between place n s ++ drop (n + 1) s))
  put_after_shift s place n x l h =
      let past : place + 1 + (n - place) ≡ n + 1 = omega arith in
      ap (λ z. set z place x) (append_assoc (take (place + 1) s) (between place n s) (drop (place + 1 + (n - place)) s))
      ∙ ap (λ k. set (take (place + 1) s ++ (between place n s ++ drop k s)) place x) past
      ∙ write_last s (between place n s ++ drop (n + 1) s) place x (omega arith)
