-- What a write to a part of a slice leaves.
use Rattle.std.proofs.Common.{◌≡◌, ℕ, List, ◌++◌, length, drop, sym, refl, ap, ◌∙◌, zero-add}
use borrow.Rule.Slice.PartMut.{put_mid, post_of}
use lib.Seq.{paste}
use Rattle.std.proofs.lemmas.Slice.{put_mid-paste}
use Rattle.std.proofs.lemmas.List.Edits.{paste_all}
use Rattle.ranges.specs.Buffers.{fronted}

-- a write to the front
pub put_front : {X : Type 0} (xs ys p : List X) (k : ℕ) → ys ≡ p → k ≡ length p → ys ++ post_of 0 k xs ≡ fronted p xs
put_front xs ys p k e f = rw (e, f)

-- a write of p at a place
pub put_part : {X : Type 0} (xs ys p : List X) (at k : ℕ) → ys ≡ p → k ≡ length p → put_mid at k xs ys ≡ paste xs at p (length p)
put_part xs ys p at k e f = put_mid-paste at k xs ys p (length p) e (sym f) refl

pub fronted_from_paste : {X : Type 0} (xs p : List X) (n : ℕ) → n ≡ length p → paste xs 0 p n ≡ fronted p xs
fronted_from_paste xs p n e = paste_all xs 0 p n e ∙ ap (λ (k : ℕ). p ++ drop k xs) (zero-add n ∙ e)
