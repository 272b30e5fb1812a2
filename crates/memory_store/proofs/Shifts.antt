-- Rows of bytes, some of which have moved up or down.
use Rattle.std.proofs.Common.{◌≡◌, ℕ, ◌+◌, ◌-◌, ◌≤◌, List, [], ◌++◌, length, take, drop, ap, ◌∙◌, arith, length-append, length-drop, length-take}
use Rattle.std.specs.List.{copy_within}
use Rattle.std.proofs.lemmas.List.Edits.{take-paste}
use Rattle.std.proofs.lemmas.List.{drop-append-le, take_at, drop_at, take-append-le, take-take, take_all, drop_all, append-nil}

-- what a Vec holds after its slice was lent, as the loan leaves it
pub refilled : (ws items : List ℕ) (n : ℕ) → length ws ≡ n → take n (ws ++ drop (length ws) items) ≡ ws
refilled ws items n e = take_at ws _ n e

-- a row with a value behind it, whose bytes from a place on have moved up by the value's length: the row's own bytes stand around the place
module _ (row value : List ℕ) (at : ℕ) (h : at ≤ length row) where
  front : length (take (at + length value) (row ++ value)) ≡ at + length value
  front = length-take (at + length value) (row ++ value) ∙ omega (arith, length-append row value)

  part : take (length row - at) (drop at (row ++ value)) ≡ drop at row
  part = ap (take (length row - at)) (drop-append-le at row value h) ∙ take_at (drop at row) value _ (length-drop at row)

  none : drop (at + length value + (length row - at)) (row ++ value) ≡ []
  none = drop_all _ (row ++ value) (omega (arith, length-append row value))

  moved_up : copy_within (row ++ value) at (length row) (at + length value) ≡ take (at + length value) (row ++ value) ++ drop at row
  moved_up = rw (part, none) (append-nil _)

  pub moved_front : take at (copy_within (row ++ value) at (length row) (at + length value)) ≡ take at row
  moved_front =
      ap (take at) moved_up
      ∙ take-append-le at (take (at + length value) (row ++ value)) (drop at row) (omega (arith, front))
      ∙ take-take at (at + length value) (row ++ value) (omega arith)
      ∙ take-append-le at row value h

  pub moved_back : drop (at + length value) (copy_within (row ++ value) at (length row) (at + length value)) ≡ drop at row
  moved_back = ap (drop (at + length value)) moved_up ∙ drop_at (take (at + length value) (row ++ value)) (drop at row) _ front

-- the same, and the value written over the place
pub opened :
    (row value both up s : List ℕ) (at : ℕ)
    → at ≤ length row
    → both ≡ row ++ value
    → up ≡ copy_within both at (length row) (at + length value)
    → s ≡ take at up ++ (value ++ drop (at + length value) up)
    → s ≡ take at row ++ (value ++ drop at row)
opened row value both up s at h e f g =
    let u = f ∙ ap (λ (x : List ℕ). copy_within x at (length row) (at + length value)) e in
    let a = ap (take at) u ∙ moved_front row value at h in
    let b = ap (drop (at + length value)) u ∙ moved_back row value at h in
    cc

-- what is left of a row whose bytes behind a part have moved down over it, cut to its length
pub closed : (row down s : List ℕ) (at n m : ℕ) → at + n ≤ length row → down ≡ copy_within row (at + n) (length row) at → m ≡ length row - n → s ≡ take m down → s ≡ take at row ++ drop (at + n) row
closed row down s at n m h f e g =
    g
    ∙ ap (take m) f
    ∙ ap (λ k. take k (copy_within row (at + n) (length row) at)) (e ∙ omega arith)
    ∙ take-paste row at (drop (at + n) row) (length row - (at + n)) (omega arith) (omega (arith, length-drop (at + n) row))
    ∙ ap (λ (x : List ℕ). take at row ++ x) (take_all _ (drop (at + n) row) (omega (arith, length-drop (at + n) row)))
