-- Values as a script writes them: text in quotes, or `x` and pairs of hexadecimal digits.
use Rattle.std.specs.Prelude.{ℕ, ◌-◌, Bool, cond, ◌&&◌, length, take, drop, Some, None, Option, ◌==◌, nat_le, slice_index}
use Rattle.std.specs.Option.{option_map}
use Rattle.script.specs.Words.{Bytes}
use Rattle.script.specs.Hex.{is_hex, unhex}
use Rattle.script.specs.declared.value.Value.{Value}
use Rattle.script.specs.declared.value.Value.TheVariants.{Text, Hex}

-- the byte `"`
abbrev pub quote : ℕ
quote = 34

-- the byte `x`
abbrev pub hex_mark : ℕ
hex_mark = 120

-- the bytes of a value
abbrev pub bytes_of : Value → Bytes
bytes_of (Text t) = t.now
bytes_of (Hex t) = unhex t.now

abbrev pub value_read : Option Value → Option Bytes
value_read r = option_map bytes_of r

-- a quote, and another at the end
abbrev pub is_quoted : Bytes → Bool
is_quoted t = nat_le 2 (length t) && (slice_index t 0 == quote && slice_index t (length t - 1) == quote)

-- an `x` and pairs of digits
abbrev pub is_hex_value : Bytes → Bool
is_hex_value t = nat_le 1 (length t) && (slice_index t 0 == hex_mark && is_hex (drop 1 t))

-- the bytes that the text of a value stands for, if it is one
unfoldable pub value_said : Bytes → Option Bytes
value_said t = cond (is_quoted t) (Some (take (length t - 2) (drop 1 t))) (cond (is_hex_value t) (Some (unhex (drop 1 t))) None)
