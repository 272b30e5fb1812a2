-- The laws of the order of texts.
use Rattle.std.specs.Prelude.{◌≡◌, ℕ, [], ◌∷◌, ◌++◌, refl}
use Rattle.std.specs.declared.cmp.Ordering.TheVariants.{Less, Equal}
use Rattle.std.proofs.Common.{ap, ◌∙◌, true≢false}
use Rattle.std.specs.Cmp.{nat_cmp_total}
use Rattle.std.specs.Cmp.Lexicographic.{slice_cmp, lists_total}
use Rattle.std.specs.Ordering.{ordering_then, is_lt, is_gt, nat_cmp}
use Rattle.order.specs.Orders.{Lawful}
use Rattle.order.proofs.Orders.{itself, numbers_lawful, first_equal, second_equal}
use Rattle.keys.specs.Text.{Bytes}
use Rattle.keys.specs.ByteOrder.{compare_bytes}

lex_equal : (a b : Bytes) → slice_cmp nat_cmp a b ≡ Equal → a ≡ b
lex_equal [] [] e = refl
lex_equal [] (y ∷ b) e = absurd (true≢false (ap is_lt e))
lex_equal (x ∷ a) [] e = absurd (true≢false (ap is_gt e))
lex_equal (x ∷ a) (y ∷ b) e =
    let p : x ≡ y = numbers_lawful.equal x y (first_equal (nat_cmp x y) (slice_cmp nat_cmp a b) e) in
    let q : a ≡ b = lex_equal a b (second_equal (nat_cmp x y) (slice_cmp nat_cmp a b) e) in
    λ i. p i ∷ q i

pub bytes_lawful : Lawful compare_bytes
unfolding compare_bytes
bytes_lawful = record { total = (lists_total nat_cmp_total).antisymm; transitive = (lists_total nat_cmp_total).trans; equal = lex_equal }

-- a common front decides nothing
pub compare_front : (p a b : Bytes) → compare_bytes (p ++ a) (p ++ b) ≡ compare_bytes a b
unfolding compare_bytes
compare_front [] a b = refl
compare_front (x ∷ p) a b = ap (λ k. ordering_then k (slice_cmp nat_cmp (p ++ a) (p ++ b))) (itself numbers_lawful x) ∙ compare_front p a b

-- a beginning comes before what it begins
pub beginning_first : (p : Bytes) (x : ℕ) (a : Bytes) → compare_bytes p (p ++ (x ∷ a)) ≡ Less
unfolding compare_bytes
beginning_first [] x a = refl
beginning_first (y ∷ p) x a = ap (λ k. ordering_then k (slice_cmp nat_cmp p (p ++ (x ∷ a)))) (itself numbers_lawful y) ∙ beginning_first p x a
