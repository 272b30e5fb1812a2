-- The order of ranges.
use Rattle.std.specs.Prelude.{ℕ, Some, None, Option}
use Rattle.std.specs.declared.cmp.Ordering.TheVariants.{Less, Equal, Greater}
use Rattle.std.specs.declared.cmp.Ordering.{Ordering}
use Rattle.std.specs.Ordering.{ordering_then, nat_cmp}
use Rattle.ranges.specs.declared.byte_range.ByteRange.{ByteRange}
use Rattle.ranges.specs.declared.byte_range.ByteRange.TheVariants.{FromStart, Suffix}

-- no length before any, then the lower length
abbrev pub compare_lengths : Option ℕ → Option ℕ → Ordering
compare_lengths None None = Equal
compare_lengths None (Some m) = Less
compare_lengths (Some l) None = Greater
compare_lengths (Some l) (Some m) = nat_cmp l m

-- a range from the start before a suffix; the lower offset, then the length; of suffixes the lower length
abbrev pub compare_ranges : ByteRange → ByteRange → Ordering
compare_ranges (FromStart o l) (FromStart p m) = ordering_then (nat_cmp o p) (compare_lengths l m)
compare_ranges (FromStart o l) (Suffix m) = Less
compare_ranges (Suffix l) (FromStart p m) = Greater
compare_ranges (Suffix l) (Suffix m) = nat_cmp l m
