-- Hexadecimal text: two lowercase digits for each byte.
use Rattle.std.specs.Prelude.{ℕ, ◌+◌, ◌-◌, ◌*◌, ◌/◌, ◌%◌, Bool, cond, ◌&&◌, ◌||◌, [], ◌∷◌, length, ◌==◌, nat_le, nat_lt}
use Rattle.std.specs.List.{flat_map, list_all}
use Rattle.script.specs.Words.{Bytes}

-- `0` to `9`
abbrev pub decimal_digit : ℕ → Bool
decimal_digit b = nat_le 48 b && nat_le b 57

-- `a` to `f`
abbrev pub letter_digit : ℕ → Bool
letter_digit b = nat_le 97 b && nat_le b 102

abbrev pub is_digit : ℕ → Bool
is_digit b = decimal_digit b || letter_digit b

-- the value of a digit, 0 of another byte
abbrev pub digit_value : ℕ → ℕ
digit_value b = cond (decimal_digit b) (b - 48) (cond (letter_digit b) (b - 87) 0)

-- the digit of the low four bits of a number
abbrev pub digit_of : ℕ → ℕ
digit_of n = cond (nat_lt (n % 16) 10) (48 + n % 16) (87 + n % 16)

-- every byte is a digit
abbrev pub all_digits : Bytes → Bool
all_digits t = list_all is_digit t

-- pairs of digits
unfoldable pub is_hex : Bytes → Bool
is_hex t = all_digits t && length t % 2 == 0

-- the bytes that pairs of digits stand for
unfoldable pub unhex : Bytes → Bytes
unhex [] = []
unhex (a ∷ []) = []
unhex (a ∷ b ∷ t) = (digit_value a * 16 + digit_value b) ∷ unhex t

-- the pairs of digits that stand for bytes
unfoldable pub hex : Bytes → Bytes
hex t = flat_map (λ b. digit_of (b / 16) ∷ digit_of b ∷ []) t
