-- The order of texts, by unsigned bytes.
use Rattle.std.specs.Cmp.Lexicographic.{slice_cmp}
use Rattle.std.specs.declared.cmp.Ordering.{Ordering}
use Rattle.keys.specs.Text.{Bytes}
use Rattle.std.specs.Ordering.{nat_cmp}

-- the first bytes that differ decide, the lower first; else a beginning comes before what it begins
unfoldable pub compare_bytes : Bytes → Bytes → Ordering
compare_bytes a b = slice_cmp nat_cmp a b
