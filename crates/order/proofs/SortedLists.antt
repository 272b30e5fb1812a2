-- Sorted lists with one more element.
use Rattle.std.proofs.Common.{◌≡◌, ℕ, ◌+◌, ◌-◌, ◌<◌, ◌≤◌, ◌⊎◌, List, [], ◌∷◌, ◌++◌, length, get_or, take, drop, Err, Ordering, Less, Greater, sym, refl, ap, ◌∙◌, subst, inl, inr, ⊎_elim, append_assoc, arith, length-append, length-drop}
use Rattle.std.specs.List.{between, ContainsAt as Has, AllWithin, AllByRecursion}
use Rattle.std.specs.List.Sorted.{IsStrictlySortedBy}
use Rattle.std.proofs.lemmas.List.{take_at, drop_at, take-take, take-append-drop, get_or-take, get_or-drop, get_or_default, get_or_append_left, get_or-append_right, length-take-le}
use Rattle.std.proofs.lemmas.Slice.{between_is}
use Rattle.std.proofs.ByRecursion.{All-from_get_or, all-has, has_append_left, has_append_right}
use Rattle.std.proofs.lemmas.Map.Keys.{Less-from_sorted}
use Rattle.std.proofs.lemmas.Bool.{cases_lt}
use Rattle.order.specs.Orders.{Lawful}
use Rattle.order.specs.SortedLists.{Holding, Placed}
use Rattle.order.proofs.Orders.{not_below_itself, less_from_greater}

module _ {X : Type 0} where
  all_insert : (P : X → Type 0) (xs ys : List X) (x : X) → AllByRecursion P (xs ++ ys) → P x → AllByRecursion P (xs ++ (x ∷ ys))
  all_insert P [] ys x h p = (p, h)
  all_insert P (a ∷ xs) ys x h p = (h.0, all_insert P xs ys x h.1 p)

  pub sorted_insert : (c : X → X → Ordering) (xs ys : List X) (x : X) → IsStrictlySortedBy c (xs ++ ys) → AllByRecursion (λ y. c y x ≡ Less) xs → AllByRecursion (λ y. c x y ≡ Less) ys → IsStrictlySortedBy c (xs ++ (x ∷ ys))
  unfolding IsStrictlySortedBy
  sorted_insert c [] ys x s b a = (a, s)
  sorted_insert c (y ∷ xs) ys x s b a = (all_insert (λ z. c y z ≡ Less) xs ys x s.0 b.0, sorted_insert c xs ys x s.1 b.1 a)

  -- membership
  pub has_append_cases : (xs ys : List X) (y : X) → Has (xs ++ ys) y → Has xs y ⊎ Has ys y
  has_append_cases xs ys y (k, l, h) =
      elim (cases_lt k (length xs)) [
        | inl b ↦ inl (k, b, λ d. sym (get_or_append_left xs ys d k b) ∙ h d)
        | inr b ↦ inr (k - length xs, omega (arith, length-append xs ys), λ d. sym (get_or-append_right xs ys (length xs) k d refl b) ∙ h d)
      ]

  pub has_first : (x : X) (ys : List X) → Has (x ∷ ys) x
  has_first x ys = (0, omega arith, λ d. refl)

  pub has_cons_cases : (x : X) (ys : List X) (y : X) → Has (x ∷ ys) y → (y ≡ x) ⊎ Has ys y
  has_cons_cases x ys y h = ⊎_elim (λ g. inl (one x y g)) inr (has_append_cases (x ∷ []) ys y h)
    where
      one : (x y : X) → Has (x ∷ []) y → y ≡ x
      one x y (k, l, h) = let z : k ≡ 0 = omega arith in sym (h x) ∙ ap (λ j. get_or (x ∷ []) j x) z

  pub has_insert : (xs ys : List X) (x y : X) → Has (xs ++ ys) y → Has (xs ++ (x ∷ ys)) y
  has_insert xs ys x y h =
      ⊎_elim
      (has_append_left xs (x ∷ ys) y)
      (λ g. has_append_right xs (x ∷ ys) y (has_append_right (x ∷ []) ys y g))
      (has_append_cases xs ys y h)

  pub has_insert_cases : (xs ys : List X) (x y : X) → Has (xs ++ (x ∷ ys)) y → Has (xs ++ ys) y ⊎ (y ≡ x)
  has_insert_cases xs ys x y h =
      ⊎_elim
      (λ g. inl (has_append_left xs ys y g))
      (λ g. ⊎_elim inr (λ f. inl (has_append_right xs ys y f)) (has_cons_cases x ys y g))
      (has_append_cases xs (x ∷ ys) y h)

-- a list whose element x is there already
pub holding_same : {X : Type 0} (c : X → X → Ordering) (s : List X) (n i : ℕ) (x : X) → n ≤ length s → i < n → get_or s i x ≡ x → IsStrictlySortedBy c (take n s) → Holding c s n x s n
holding_same c s n i x l b e up =
    let long : length (take n s) ≡ n = length-take-le n s l in
    let has : Has (take n s) x = (i, omega arith, λ d. get_or-take n s i d b ∙ get_or_default s i d x (omega arith) ∙ e) in
    record {
      ascends = up;
      old = λ y h. h;
      new = has;
      only = λ y h. inl h;
      rest = refl;
      within = l;
      repeated = λ _. (refl, refl);
      added = λ no. absurd (no has);
    }

-- a list that lacks x, which goes to the place i
module _ {X : Type 0} {c : X → X → Ordering} (o : Lawful c) (l : List X) (i : ℕ) (x : X) (up : IsStrictlySortedBy c l) (in' : i ≤ length l) (above : AllWithin (λ y. c x y ≡ Less) l i (length l)) (below : 0 < i → c x (get_or l (i - 1) x) ≡ Greater) where
  under : (k : ℕ) → k < i → c (get_or l k x) x ≡ Less
  under k h =
      let last : c (get_or l (i - 1) x) x ≡ Less = less_from_greater o x (get_or l (i - 1) x) (below (omega arith)) in
      elim (cases_lt k (i - 1)) [
        | inl b ↦ o.transitive (get_or l k x) (get_or l (i - 1) x) x (Less-from_sorted c l k (i - 1) x up b (omega arith)) last
        | inr b ↦ let e : k ≡ i - 1 = omega arith in ap (λ j. c (get_or l j x) x) e ∙ last
      ]

  all_under : AllByRecursion (λ y. c y x ≡ Less) (take i l)
  all_under =
      let long : length (take i l) ≡ i = length-take-le i l in' in
      All-from_get_or (λ y. c y x ≡ Less) (take i l) x (λ k h. let b : k < i = omega arith in ap (λ z. c z x) (get_or-take i l k x b) ∙ under k b)

  all_above : AllByRecursion (λ y. c x y ≡ Less) (drop i l)
  all_above =
      let long : length (drop i l) ≡ length l - i = length-drop i l in
      All-from_get_or (λ y. c x y ≡ Less) (drop i l) x (λ k h. ap (λ z. c x z) (get_or-drop i l k x) ∙ above (i + k) x (omega arith) (omega arith))

  pub absent : Has l x → ⊥
  absent h =
      ⊎_elim
      (λ g. not_below_itself o x (all-has (λ y. c y x ≡ Less) (take i l) x all_under g))
      (λ g. not_below_itself o x (all-has (λ y. c x y ≡ Less) (drop i l) x all_above g))
      (has_append_cases (take i l) (drop i l) x (subst (λ z. Has z x) (sym (take-append-drop i l)) h))

  pub ascends_inserted : IsStrictlySortedBy c (take i l ++ (x ∷ drop i l))
  ascends_inserted = sorted_insert c (take i l) (drop i l) x (subst (IsStrictlySortedBy c) (sym (take-append-drop i l)) up) all_under all_above

-- the list's front and what lies behind it, after x is put at the place i of the first n
module _ {X : Type 0} (s after : List X) (i n : ℕ) (x : X) (l : i ≤ n) (h : n < length s) (e : after ≡ take i s ++ (x ∷ (between i n s ++ drop (n + 1) s))) where
  parts : after ≡ (take i (take n s) ++ (x ∷ drop i (take n s))) ++ drop (n + 1) s
  parts =
      e
      ∙ sym (append_assoc (take i s) (x ∷ between i n s) (drop (n + 1) s))
      ∙ (λ j. (sym (take-take i n s l) j ++ (x ∷ between_is s i n j)) ++ drop (n + 1) s)

  long : length (take i (take n s) ++ (x ∷ drop i (take n s))) ≡ n + 1
  long =
      let m : length (take n s) ≡ n = length-take-le n s (omega arith) in
      let p : length (take i (take n s)) ≡ i = length-take-le i (take n s) (omega arith) in
      let q : length (drop i (take n s)) ≡ length (take n s) - i = length-drop i (take n s) in
      length-append (take i (take n s)) (x ∷ drop i (take n s)) ∙ omega arith

  pub front_inserted : take (n + 1) after ≡ take i (take n s) ++ (x ∷ drop i (take n s))
  front_inserted = ap (λ z. take (n + 1) z) parts ∙ take_at (take i (take n s) ++ (x ∷ drop i (take n s))) (drop (n + 1) s) (n + 1) long

  pub rest_inserted : drop (n + 1) after ≡ drop (n + 1) s
  rest_inserted = ap (λ z. drop (n + 1) z) parts ∙ drop_at (take i (take n s) ++ (x ∷ drop i (take n s))) (drop (n + 1) s) (n + 1) long

module _ {X : Type 0} {c : X → X → Ordering} (o : Lawful c) (s : List X) (n i : ℕ) (x : X) (l : n ≤ length s) (p : Placed c s n x (Err i)) (up : IsStrictlySortedBy c (take n s)) where
  size : length (take n s) ≡ n
  size = length-take-le n s l

  above : AllWithin (λ y. c x y ≡ Less) (take n s) i (length (take n s))
  above k d a b = let m = size in let h : k < n = omega arith in ap (λ z. c x z) (get_or-take n s k d h) ∙ p.1 k d a h

  below : 0 < i → c x (get_or (take n s) (i - 1) x) ≡ Greater
  below h = let b : i - 1 < n = omega arith in ap (λ z. c x z) (get_or-take n s (i - 1) x b) ∙ p.2 h

  within : i ≤ length (take n s)
  within = let m = size in omega arith

  pub absent_from_placed : Has (take n s) x → ⊥
  absent_from_placed = absent o (take n s) i x up within above below

  pub holding_added : (after : List X) → n < length s → after ≡ take i s ++ (x ∷ (between i n s ++ drop (n + 1) s)) → Holding c s n x after (n + 1)
  holding_added after b e =
      let t : List X = take i (take n s) in
      let d : List X = drop i (take n s) in
      let f : take (n + 1) after ≡ t ++ (x ∷ d) = front_inserted s after i n x p.0 b e in
      let g : t ++ d ≡ take n s = take-append-drop i (take n s) in
      record {
        ascends = subst (IsStrictlySortedBy c) (sym f) (ascends_inserted o (take n s) i x up within above below);
        old = λ y h. subst (λ z. Has z y) (sym f) (has_insert t d x y (subst (λ z. Has z y) (sym g) h));
        new = subst (λ z. Has z x) (sym f) (has_append_right t (x ∷ d) x (has_first x d));
        only = λ y h. subst (λ z. Has z y ⊎ (y ≡ x)) g (has_insert_cases t d x y (subst (λ z. Has z y) f h));
        rest = rest_inserted s after i n x p.0 b e;
        within = omega arith;
        repeated = λ h. absurd (absent_from_placed h);
        added = λ _. refl;
      }
