-- What a plain row means: its text, and the key or prefix that it turns into.
use Rattle.std.specs.Prelude.{◌≡◌, ◌<◌, ◌≤◌, length, take, Err, Result}
use Rattle.std.specs.declared.cmp.Ordering.{Ordering}
use Rattle.std.specs.Ordering.{ordering_then, nat_cmp}
use Rattle.keys.specs.ByteOrder.{compare_bytes}
use Rattle.keys.specs.Text.{Bytes, padded}
use Rattle.keys.specs.StoreKeys.{MadeKey}
use Rattle.keys.specs.StorePrefixes.{MadePrefix}
use Rattle.keys.specs.declared.row.Row.{Row}
use Rattle.keys.specs.declared.store_key.StoreKey.{StoreKey}
use Rattle.keys.specs.declared.store_key.StoreKeyError as key-error
use Rattle.keys.specs.declared.store_prefix.StorePrefix.{StorePrefix}
use Rattle.keys.specs.declared.store_prefix.StorePrefixError as prefix-error

-- the text of a row: its first bytes, or all where its length passes them
abbrev pub row_text : Row → Bytes
row_text r = take r.len r.bytes

-- the row that holds t, with zeros behind it
pub record RowOf (t : Bytes) (r : Row) : Type 0 where
  pub words : row_text r ≡ t
  pub long : r.len ≡ length t
  pub bytes : r.bytes ≡ padded 121 t

-- the row's text as a key; a length past the row is too long
abbrev pub AsKey : Row → Result StoreKey key-error.StoreKeyError → Type 0
AsKey w r = MadeKey (row_text w) r × (120 < w.len → r ≡ Err key-error.TheVariants.TooLong)

-- the row's text as a prefix; a length past the row is too long
abbrev pub AsPrefix : Row → Result StorePrefix prefix-error.StorePrefixError → Type 0
AsPrefix w r = (w.len ≤ 121 → MadePrefix (row_text w) r) × (121 < w.len → r ≡ Err prefix-error.TheVariants.TooLong)

-- by all bytes, then by the lengths
abbrev pub compare_fields : Row → Row → Ordering
compare_fields a b = ordering_then (compare_bytes a.bytes b.bytes) (nat_cmp a.len b.len)

-- by the texts; rows of one text by their fields
abbrev pub compare_rows : Row → Row → Ordering
compare_rows a b = ordering_then (compare_bytes (row_text a) (row_text b)) (compare_fields a b)
