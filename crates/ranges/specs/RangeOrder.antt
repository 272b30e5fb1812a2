-- The order of ranges is a total order.
use Rattle.std.specs.Prelude.{◌≡◌, ℕ, Some, None, Option, refl}
use Rattle.std.specs.declared.cmp.Ordering.TheVariants.{Less, Equal, Greater}
use Rattle.std.proofs.Common.{true≢false, sym, ap}
use Rattle.std.specs.Ordering.{ordering_then, ordering_reverse, is_gt, nat_cmp}
use Rattle.order.specs.Orders.{Lawful}
use Rattle.order.proofs.Orders.{numbers_lawful, pairs_lawful, less_equal}
use Rattle.ranges.specs.declared.byte_range.ByteRange.{ByteRange}
use Rattle.ranges.specs.declared.byte_range.ByteRange.TheVariants.{FromStart, Suffix}
use Rattle.ranges.specs.Orders.{compare_lengths, compare_ranges}

greater_less : Greater ≡ Less → ⊥
greater_less e = true≢false (ap is_gt e)

greater_equal : Greater ≡ Equal → ⊥
greater_equal e = true≢false (ap is_gt e)

equal_less : Equal ≡ Less → ⊥
equal_less e = less_equal (sym e)

lengths_total : (a b : Option ℕ) → compare_lengths a b ≡ ordering_reverse (compare_lengths b a)
lengths_total None None = refl
lengths_total None (Some m) = refl
lengths_total (Some l) None = refl
lengths_total (Some l) (Some m) = numbers_lawful.total l m

lengths_transitive : (a b c : Option ℕ) → compare_lengths a b ≡ Less → compare_lengths b c ≡ Less → compare_lengths a c ≡ Less
lengths_transitive None None c p q = absurd (equal_less p)
lengths_transitive None (Some m) None p q = absurd (greater_less q)
lengths_transitive None (Some m) (Some n) p q = refl
lengths_transitive (Some l) None c p q = absurd (greater_less p)
lengths_transitive (Some l) (Some m) None p q = absurd (greater_less q)
lengths_transitive (Some l) (Some m) (Some n) p q = numbers_lawful.transitive l m n p q

lengths_equal : (a b : Option ℕ) → compare_lengths a b ≡ Equal → a ≡ b
lengths_equal None None e = refl
lengths_equal None (Some m) e = absurd (less_equal e)
lengths_equal (Some l) None e = absurd (greater_equal e)
lengths_equal (Some l) (Some m) e = ap (λ (n : ℕ). Some n) (numbers_lawful.equal l m e)

lengths_lawful : Lawful compare_lengths
lengths_lawful = record { total = lengths_total; transitive = lengths_transitive; equal = lengths_equal }

from_start_lawful : Lawful (λ (x y : ℕ × Option ℕ). ordering_then (nat_cmp x.0 y.0) (compare_lengths x.1 y.1))
from_start_lawful = pairs_lawful numbers_lawful lengths_lawful

pub ranges_total : (a b : ByteRange) → compare_ranges a b ≡ ordering_reverse (compare_ranges b a)
ranges_total (FromStart o l) (FromStart p m) = from_start_lawful.total (o, l) (p, m)
ranges_total (FromStart o l) (Suffix m) = refl
ranges_total (Suffix l) (FromStart p m) = refl
ranges_total (Suffix l) (Suffix m) = numbers_lawful.total l m

pub ranges_transitive : (a b c : ByteRange) → compare_ranges a b ≡ Less → compare_ranges b c ≡ Less → compare_ranges a c ≡ Less
ranges_transitive (FromStart o l) (FromStart p m) (FromStart q n) h k = from_start_lawful.transitive (o, l) (p, m) (q, n) h k
ranges_transitive (FromStart o l) (FromStart p m) (Suffix n) h k = refl
ranges_transitive (FromStart o l) (Suffix m) (FromStart q n) h k = absurd (greater_less k)
ranges_transitive (FromStart o l) (Suffix m) (Suffix n) h k = refl
ranges_transitive (Suffix l) (FromStart p m) c h k = absurd (greater_less h)
ranges_transitive (Suffix l) (Suffix m) (FromStart q n) h k = absurd (greater_less k)
ranges_transitive (Suffix l) (Suffix m) (Suffix n) h k = numbers_lawful.transitive l m n h k

pub ranges_equal : (a b : ByteRange) → compare_ranges a b ≡ Equal → a ≡ b
ranges_equal (FromStart o l) (FromStart p m) e = ap (λ (x : ℕ × Option ℕ). FromStart x.0 x.1) (from_start_lawful.equal (o, l) (p, m) e)
ranges_equal (FromStart o l) (Suffix m) e = absurd (less_equal e)
ranges_equal (Suffix l) (FromStart p m) e = absurd (greater_equal e)
ranges_equal (Suffix l) (Suffix m) e = ap (λ (n : ℕ). Suffix n) (numbers_lawful.equal l m e)

pub ranges_lawful : Lawful compare_ranges
ranges_lawful = record { total = ranges_total; transitive = ranges_transitive; equal = ranges_equal }
