-- What a byte range means for a value of n bytes, with numbers as mathematical integers.
use Rattle.std.specs.Prelude.{ℕ, ◌+◌, ◌-◌, ◌^◌, ◌≤◌, Bool, cond, ◌&&◌, List, [], length, take, drop, Some, None, Option, nat_le, nat_lt}
use Rattle.ranges.specs.declared.byte_range.ByteRange.{ByteRange}
use Rattle.ranges.specs.declared.byte_range.ByteRange.TheVariants.{FromStart, Suffix}
use Rattle.std.specs.declared.ops.Bound.{Bound}
use Rattle.std.specs.declared.ops.Bound.TheVariants.{Included, Excluded, Unbounded}
use Rattle.ranges.specs.declared.byte_range.Range.{Range}

abbrev pub Bytes : Type 0
Bytes = List ℕ

-- the value, where the test passes
abbrev pub only_if : {X : Type 0} → Bool → X → Option X
only_if b x = cond b (Some x) None

-- the number, where u64 has it
abbrev pub in_u64 : ℕ → Option ℕ
in_u64 n = only_if (nat_lt n (2 ^ 64)) n

-- the difference, where it is not below zero
abbrev pub minus : ℕ → ℕ → Option ℕ
minus a b = only_if (nat_le b a) (a - b)

-- where the range starts
abbrev pub start_of : ByteRange → ℕ → Option ℕ
start_of (FromStart o l) n = Some o
start_of (Suffix l) n = minus n l

-- where it ends, exclusive
abbrev pub end_of : ByteRange → ℕ → Option ℕ
end_of (FromStart o None) n = Some n
end_of (FromStart o (Some l)) n = in_u64 (o + l)
end_of (Suffix l) n = Some n

-- how many bytes it has
abbrev pub length_of : ByteRange → ℕ → Option ℕ
length_of (FromStart o None) n = minus n o
length_of (FromStart o (Some l)) n = Some l
length_of (Suffix l) n = Some l

-- start and end, where both are there
abbrev pub spanned : Option ℕ → Option ℕ → Option Range
spanned None e = None
spanned (Some s) None = None
spanned (Some s) (Some e) = Some (record { start = s; end = e })

-- start and end of a range
abbrev pub span_of : ByteRange → ℕ → Option Range
span_of r n = spanned (start_of r n) (end_of r n)

-- the range from that offset with that length, where both are there
abbrev pub spanning : Option ℕ → Option ℕ → Option ByteRange
spanning None l = None
spanning (Some o) None = None
spanning (Some o) (Some l) = Some (FromStart o (Some l))

-- the range that two bounds give: each difference is at least 0, each sum in u64
abbrev pub bounded : Bound ℕ → Bound ℕ → Option ByteRange
bounded (Included s) (Included e) = only_if (nat_le s e && nat_lt (e - s + 1) (2 ^ 64)) (FromStart s (Some (e - s + 1)))
bounded (Included s) (Excluded e) = only_if (nat_le s e) (FromStart s (Some (e - s)))
bounded (Included s) Unbounded = Some (FromStart s None)
bounded (Excluded s) (Included e) = only_if (nat_le s e && nat_lt (s + 1) (2 ^ 64)) (FromStart (s + 1) (Some (e - s)))
bounded (Excluded s) (Excluded e) = only_if (nat_le (s + 1) e) (FromStart (s + 1) (Some (e - s - 1)))
bounded (Excluded s) Unbounded = only_if (nat_lt (s + 1) (2 ^ 64)) (FromStart (s + 1) None)
bounded Unbounded (Included e) = only_if (nat_lt (e + 1) (2 ^ 64)) (FromStart 0 (Some (e + 1)))
bounded Unbounded (Excluded e) = Some (FromStart 0 (Some e))
bounded Unbounded Unbounded = Some (FromStart 0 None)

-- the range lies inside a value of n bytes
abbrev pub Fits : ByteRange → ℕ → Type 0
Fits (FromStart o None) n = o ≤ n
Fits (FromStart o (Some l)) n = o + l ≤ n
Fits (Suffix l) n = l ≤ n

-- the test for it
abbrev pub fitting : ByteRange → ℕ → Bool
fitting (FromStart o None) n = nat_le o n
fitting (FromStart o (Some l)) n = nat_le (o + l) n
fitting (Suffix l) n = nat_le l n

-- the bytes of a range inside the value
abbrev pub inside : Bytes → ByteRange → Bytes
inside b (FromStart o None) = drop o b
inside b (FromStart o (Some l)) = take l (drop o b)
inside b (Suffix l) = drop (length b - l) b

-- the bytes that a range picks: none where it does not fit
unfoldable pub picked : Bytes → ByteRange → Bytes
picked b r = cond (fitting r (length b)) (inside b r) []
