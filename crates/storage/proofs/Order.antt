-- Two texts are one, or one comes before the other.
use Rattle.std.proofs.Common.{◌≡◌, ℕ, Bool, true, false, Ordering, Less, Equal, Greater, sym, refl, ap, ◌∙◌, arith}
use Rattle.std.specs.Ordering.{is_eq, is_lt, ordering_reverse}
use Rattle.keys.specs.Text.{Bytes}
use Rattle.order.proofs.Orders.{itself}
use Rattle.keys.specs.ByteOrder.{compare_bytes}
use Rattle.keys.specs.ByteOrderLemmas.{bytes_lawful}
use Rattle.storage.specs.Contents.{same, earlier}

pub clash : {A : Type 0} (b : Bool) → b ≡ true → b ≡ false → A
clash b p q = let z : ◌≡◌ {A = ℕ} 0 1 = cc in absurd (omega arith)

is_equal : (o : Ordering) → is_eq o ≡ true → o ≡ Equal
is_equal Less p = clash false p refl
is_equal Equal p = refl
is_equal Greater p = clash false p refl

is_less : (o : Ordering) → is_lt o ≡ true → o ≡ Less
is_less Less p = refl
is_less Equal p = clash false p refl
is_less Greater p = clash false p refl

pub same_true : (a b : Bytes) → same a b ≡ true → a ≡ b
unfolding same
same_true a b p = bytes_lawful.equal a b (is_equal (compare_bytes a b) p)

pub eq_same : (a b : Bytes) → a ≡ b → same a b ≡ true
unfolding same
eq_same a b e = rw e (ap is_eq (itself bytes_lawful b))

pub same_false : (a b : Bytes) → same a b ≡ false → a ≡ b → ⊥
same_false a b q e = clash (same a b) (eq_same a b e) q

pub ne_same : (a b : Bytes) → (a ≡ b → ⊥) → same a b ≡ false
ne_same a b n = go (same a b) refl
  where
    go : (t : Bool) → same a b ≡ t → t ≡ false
    go true q = absurd (n (same_true a b q))
    go false q = refl

pub same_flip : (a b : Bytes) → same a b ≡ same b a
same_flip a b = go (same b a) refl
  where
    go : (t : Bool) → same b a ≡ t → same a b ≡ t
    go true q = eq_same a b (sym (same_true b a q))
    go false q = ne_same a b (λ e. same_false b a q (sym e))

pub earlier_trans : (a b c : Bytes) → earlier a b ≡ true → earlier b c ≡ true → earlier a c ≡ true
unfolding earlier
earlier_trans a b c p q = ap is_lt (bytes_lawful.transitive a b c (is_less (compare_bytes a b) p) (is_less (compare_bytes b c) q))

pub earlier_apart : (a b : Bytes) → earlier a b ≡ true → same a b ≡ false
unfolding earlier same
earlier_apart a b p = ap is_eq (is_less (compare_bytes a b) p)

pub earlier_not_back : (a b : Bytes) → earlier a b ≡ true → earlier b a ≡ false
unfolding earlier
earlier_not_back a b p = ap is_lt (bytes_lawful.total b a ∙ ap ordering_reverse (is_less (compare_bytes a b) p))

pub earlier_back : (a b : Bytes) → same a b ≡ false → earlier a b ≡ false → earlier b a ≡ true
unfolding earlier same
earlier_back a b p q = ap is_lt (bytes_lawful.total b a) ∙ go (compare_bytes a b) p q
  where
    go : (o : Ordering) → is_eq o ≡ false → is_lt o ≡ false → is_lt (ordering_reverse o) ≡ true
    go Less p q = clash true refl q
    go Equal p q = clash true refl p
    go Greater p q = refl
