-- How values and calls are written, so that a script reads them back.
use Rattle.std.specs.Prelude.{◌≡◌, ℕ, Bool, true, cond, not, ◌&&◌, [], ◌∷◌, ◌++◌, length, codes, ◌==◌, ◌≢◌, nat_le}
use Rattle.std.specs.List.{AllByRecursion, list_all}
use Rattle.script.specs.Words.{Bytes, plain}
use Rattle.script.specs.Hex.{hex}
use Rattle.script.specs.Values.{quote, hex_mark}
use Rattle.script.specs.Commands.{Call, exporting, reading, listing, asks, line_says}

-- a byte that is shown as it stands: printable ASCII, but for the quote
abbrev pub shown_byte : ℕ → Bool
shown_byte b = (nat_le 32 b && nat_le b 126) && not (b == quote)

-- every byte is shown as it stands
abbrev pub printable : Bytes → Bool
printable t = list_all shown_byte t

-- a value: text in quotes if it is printable, else pairs of digits
unfoldable pub value_text : Bytes → Bytes
value_text v = cond (printable v) (quote ∷ (v ++ (quote ∷ []))) (hex_mark ∷ hex v)

-- a label: two quotes for the empty one
abbrev pub label_text : Bytes → Bytes
label_text l = cond (length l == 0) (quote ∷ quote ∷ []) l

-- a call
unfoldable pub written : Call → Bytes
written (exporting l v) = codes "export " ++ (label_text l ++ (32 ∷ value_text v))
written (reading l) = codes "read " ++ label_text l
written listing = codes "list"

-- a label that a word can stand for: no blanks, and not two quotes
abbrev pub LabelFits : Bytes → Type 0
LabelFits l = AllByRecursion (λ b. plain b ≡ true) l × (l ≢ quote ∷ quote ∷ [])

abbrev pub CallFits : Call → Type 0
CallFits (exporting l v) = LabelFits l
CallFits (reading l) = LabelFits l
CallFits listing = Unit {0}

-- behind `before` now stands the call c as a line, and that line says c
abbrev pub WrittenAs : Call → Bytes → Bytes → Type 0
WrittenAs c before after = (after ≡ before ++ written c) × (CallFits c → line_says (written c) ≡ asks c)
