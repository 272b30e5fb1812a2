-- Sorted lists without repeats are known by their elements.
use Rattle.std.proofs.Common.{◌≡◌, ◌≤◌, List, [], ◌∷◌, length, Ordering, Less, Equal, Greater, sym, refl, ap, ◌∙◌, subst, ⊎_elim, arith}
use Rattle.std.specs.List.Sorted.{IsStrictlySortedBy}
use Rattle.std.specs.List.{ContainsAt as Has}
use Rattle.std.proofs.ByRecursion.{all-has, has_append_right}
use Rattle.order.specs.Orders.{Lawful}
use Rattle.order.proofs.Orders.{not_below_itself, less_from_greater}
use Rattle.order.proofs.SortedLists.{has_first, has_cons_cases}

module _ {X : Type 0} where
  pub has_none : (x : X) → Has [] x → ⊥
  has_none x (k, l, h) = omega arith

  pub has_later : (x : X) (ys : List X) (y : X) → Has ys y → Has (x ∷ ys) y
  has_later x ys y h = has_append_right (x ∷ []) ys y h

module _ {X : Type 0} {c : X → X → Ordering} (o : Lawful c) where
  -- the first of a sorted list is none of those behind it
  behind : (x : X) (xs : List X) (z : X) → IsStrictlySortedBy c (x ∷ xs) → Has xs z → z ≡ x → ⊥
  unfolding IsStrictlySortedBy
  behind x xs z s h e = not_below_itself o x (ap (c x) (sym e) ∙ all-has (λ y. c x y ≡ Less) xs z s.0 h)

  tail : (x : X) (xs : List X) → IsStrictlySortedBy c (x ∷ xs) → IsStrictlySortedBy c xs
  unfolding IsStrictlySortedBy
  tail x xs s = s.1

  -- what comes before the first of a sorted list is not in it
  ahead : (x y : X) (ys : List X) → IsStrictlySortedBy c (y ∷ ys) → c x y ≡ Less → Has (y ∷ ys) x → ⊥
  unfolding IsStrictlySortedBy
  ahead x y ys s l h =
      ⊎_elim
      (λ e. not_below_itself o x (ap (c x) e ∙ l))
      (λ g. not_below_itself o x (o.transitive x y x l (all-has (λ z. c y z ≡ Less) ys x s.0 g)))
      (has_cons_cases y ys x h)

  pub sorted_sub : (xs ys : List X) → IsStrictlySortedBy c xs → IsStrictlySortedBy c ys → ((z : X) → Has xs z → Has ys z) → length xs ≤ length ys
  sorted_sub [] ys s t f = omega arith
  sorted_sub (x ∷ xs) [] s t f = absurd (has_none x (f x (has_first x xs)))
  sorted_sub (x ∷ xs) (y ∷ ys) s t f =
      go (sorted_sub xs ys (tail x xs s) (tail y ys t)) (sorted_sub (x ∷ xs) ys s (tail y ys t)) (c x y) refl
    where
      go : (((z : X) → Has xs z → Has ys z) → length xs ≤ length ys) → (((z : X) → Has (x ∷ xs) z → Has ys z) → length (x ∷ xs) ≤ length ys) → (k : Ordering) → c x y ≡ k → length (x ∷ xs) ≤ length (y ∷ ys)
      go both right Less e = absurd (ahead x y ys t e (f x (has_first x xs)))
      go both right Equal e =
          let m = both (λ z h. ⊎_elim (λ q. absurd (behind x xs z s h (q ∙ sym (o.equal x y e)))) (λ g. g) (has_cons_cases y ys z (f z (has_later x xs z h)))) in
          omega arith
      go both right Greater e =
          let yx : c y x ≡ Less = less_from_greater o x y e in
          let m = right (λ z h. ⊎_elim (λ q. absurd (ahead y x xs s yx (subst (Has (x ∷ xs)) q h))) (λ g. g) (has_cons_cases y ys z (f z h))) in
          omega arith

  pub sorted_same : (xs ys : List X) → IsStrictlySortedBy c xs → IsStrictlySortedBy c ys → ((z : X) → Has xs z → Has ys z) → ((z : X) → Has ys z → Has xs z) → xs ≡ ys
  sorted_same [] [] s t f g = refl
  sorted_same [] (y ∷ ys) s t f g = absurd (has_none y (g y (has_first y ys)))
  sorted_same (x ∷ xs) [] s t f g = absurd (has_none x (f x (has_first x xs)))
  sorted_same (x ∷ xs) (y ∷ ys) s t f g =
      let e : x ≡ y = first_same in
      λ i. e i ∷ sorted_same xs ys (tail x xs s) (tail y ys t)
      (λ z h. ⊎_elim (λ q. absurd (behind x xs z s h (q ∙ sym e))) (λ w. w) (has_cons_cases y ys z (f z (has_later x xs z h))))
      (λ z h. ⊎_elim (λ q. absurd (behind y ys z t h (q ∙ e))) (λ w. w) (has_cons_cases x xs z (g z (has_later y ys z h)))) i
    where
      first_same : x ≡ y
      first_same = go (c x y) refl
        where
          go : (k : Ordering) → c x y ≡ k → x ≡ y
          go Less e = absurd (ahead x y ys t e (f x (has_first x xs)))
          go Equal e = o.equal x y e
          go Greater e = absurd (ahead y x xs s (less_from_greater o x y e) (g y (has_first y ys)))
