-- What follows from the laws of a total order, and orders made from orders.
use Rattle.std.proofs.Common.{◌≡◌, ◌<◌, Ordering, Less, Equal, Greater, Bool, true, false, sym, refl, ap, ◌∙◌, subst, true≢false}
use Rattle.std.specs.Cmp.{IsTotalOrder, ranks, nat_cmp_total}
use Rattle.std.specs.Prelude.{Decides}
use Rattle.std.specs.Ordering.{MatchOrdering, ordering_reverse, ordering_then, is_eq, is_lt, is_gt, nat_cmp}
use Rattle.order.specs.Orders.{Lawful}

fixed : (k : Ordering) → k ≡ ordering_reverse k → k ≡ Equal
fixed Less e = absurd (true≢false (ap is_lt e))
fixed Equal e = refl
fixed Greater e = absurd (true≢false (ap is_gt e))

pub less_equal : Less ≡ Equal → ⊥
less_equal e = true≢false (ap is_lt e)

module _ {X : Type 0} {c : X → X → Ordering} (o : Lawful c) where
  -- a value equals itself
  pub itself : (a : X) → c a a ≡ Equal
  itself a = fixed (c a a) (o.total a a)

  pub equal_from_same : (a b : X) → a ≡ b → c a b ≡ Equal
  equal_from_same a b e = ap (λ z. c a z) (sym e) ∙ itself a

  pub not_below_itself : (a : X) → c a a ≡ Less → ⊥
  not_below_itself a h = less_equal (sym h ∙ itself a)

  pub less_from_greater : (a b : X) → c a b ≡ Greater → c b a ≡ Less
  less_from_greater a b h = o.total b a ∙ ap ordering_reverse h

  pub greater_from_less : (a b : X) → c a b ≡ Less → c b a ≡ Greater
  greater_from_less a b h = o.total b a ∙ ap ordering_reverse h

  -- the laws, as the library states them of `cmp`
  pub total_order : IsTotalOrder c
  total_order = record { antisymm = o.total; trans = o.transitive; congr = λ x y z e. ap (λ w. c w z) (o.equal x y e) }

  -- a test that decides equality holds exactly where the values compare equal
  pub ties : (e : X → X → Bool) → ((a b : X) → Decides (e a b) (a ≡ b)) → (a b : X) → e a b ≡ is_eq (c a b)
  ties e d a b = tie (e a b) (c a b) (d a b) (o.equal a b) (equal_from_same a b)
    where
      tie : (t : Bool) (k : Ordering) → Decides t (a ≡ b) → (k ≡ Equal → a ≡ b) → (a ≡ b → k ≡ Equal) → t ≡ is_eq k
      tie true k h f g = sym (ap is_eq (g (h.0 refl)))
      tie false Less h f g = refl
      tie false Equal h f g = h.1 (f refl)
      tie false Greater h f g = refl

  -- the order by what a function that tells values apart gives
  pub lawful_by : {Y : Type 0} (f : Y → X) → ((a b : Y) → f a ≡ f b → a ≡ b) → Lawful (λ (a b : Y). c (f a) (f b))
  lawful_by f inj = record {
    total = λ a b. o.total (f a) (f b);
    transitive = λ a b d. o.transitive (f a) (f b) (f d);
    equal = λ a b e. inj a b (o.equal (f a) (f b) e);
  }

-- the order of numbers
pub numbers_lawful : Lawful nat_cmp
numbers_lawful = record {
  total = nat_cmp_total.antisymm;
  transitive = nat_cmp_total.trans;
  equal = λ x y e. subst (λ k. MatchOrdering k (x < y) (x ≡ y) (y < x)) e (ranks x y);
}

-- an answer by two: the second counts where the first is `Equal`
pub first_equal : (k t : Ordering) → ordering_then k t ≡ Equal → k ≡ Equal
first_equal Less t e = absurd (true≢false (ap is_lt e))
first_equal Equal t e = refl
first_equal Greater t e = absurd (true≢false (ap is_gt e))

pub second_equal : (k t : Ordering) → ordering_then k t ≡ Equal → t ≡ Equal
second_equal Less t e = absurd (true≢false (ap is_lt e))
second_equal Equal t e = e
second_equal Greater t e = absurd (true≢false (ap is_gt e))

then_reversed : (a b : Ordering) → ordering_then (ordering_reverse a) (ordering_reverse b) ≡ ordering_reverse (ordering_then a b)
then_reversed Less b = refl
then_reversed Equal b = refl
then_reversed Greater b = refl

-- pairs, by the first part and then by the second
module _ {A B : Type 0} {c : A → A → Ordering} {d : B → B → Ordering} (o : Lawful c) (q : Lawful d) where
  abbrev by_both : A × B → A × B → Ordering
  by_both x y = ordering_then (c x.0 y.0) (d x.1 y.1)

  chained : (x y z : A × B) (k m : Ordering) → c x.0 y.0 ≡ k → c y.0 z.0 ≡ m → ordering_then k (d x.1 y.1) ≡ Less → ordering_then m (d y.1 z.1) ≡ Less → by_both x z ≡ Less
  chained x y z Less Less e f h g = ap (λ k. ordering_then k (d x.1 z.1)) (o.transitive x.0 y.0 z.0 e f)
  chained x y z Less Equal e f h g = ap (λ k. ordering_then k (d x.1 z.1)) (ap (c x.0) (sym (o.equal y.0 z.0 f)) ∙ e)
  chained x y z Less Greater e f h g = absurd (true≢false (ap is_gt g))
  chained x y z Equal Less e f h g = ap (λ k. ordering_then k (d x.1 z.1)) (ap (λ w. c w z.0) (o.equal x.0 y.0 e) ∙ f)
  chained x y z Equal Equal e f h g = ap (λ k. ordering_then k (d x.1 z.1)) (ap (λ w. c w z.0) (o.equal x.0 y.0 e) ∙ f) ∙ q.transitive x.1 y.1 z.1 h g
  chained x y z Equal Greater e f h g = absurd (true≢false (ap is_gt g))
  chained x y z Greater m e f h g = absurd (true≢false (ap is_gt h))

  pub pairs_lawful : Lawful (λ (x y : A × B). ordering_then (c x.0 y.0) (d x.1 y.1))
  pairs_lawful = record {
    total = λ x y. (λ i. ordering_then (o.total x.0 y.0 i) (q.total x.1 y.1 i)) ∙ then_reversed (c y.0 x.0) (d y.1 x.1);
    transitive = λ x y z. chained x y z (c x.0 y.0) (c y.0 z.0) refl refl;
    equal = λ x y e i. (
      o.equal x.0 y.0 (first_equal (c x.0 y.0) (d x.1 y.1) e) i,
      q.equal x.1 y.1 (second_equal (c x.0 y.0) (d x.1 y.1) e) i,
    );
  }
