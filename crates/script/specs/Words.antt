-- The words of a line: the runs of bytes between blanks.
use Rattle.std.specs.Prelude.{ℕ, ◌-◌, Bool, not, ◌||◌, List, length, take, drop, ◌==◌}
use Rattle.std.specs.List.{prefix_len, suffix_len}

abbrev pub Bytes : Type 0
Bytes = List ℕ

-- a space, a tab or a carriage return
abbrev pub blank : ℕ → Bool
blank b = b == 32 || (b == 9 || b == 13)

-- a byte of a word
abbrev pub plain : ℕ → Bool
plain b = not (blank b)

-- the text from its first byte of a word on
abbrev pub trimmed_front : Bytes → Bytes
trimmed_front t = drop (prefix_len blank t) t

-- the text through its last byte of a word
abbrev pub trimmed_back : Bytes → Bytes
trimmed_back t = take (length t - suffix_len blank t) t

-- the text less the blanks at both ends
unfoldable pub trimmed : Bytes → Bytes
trimmed t = trimmed_back (trimmed_front t)

-- the first run of bytes that are no blanks
unfoldable pub first_word : Bytes → Bytes
first_word t = take (prefix_len plain (trimmed_front t)) (trimmed_front t)

-- what stands behind that run
unfoldable pub behind_word : Bytes → Bytes
behind_word t = drop (prefix_len plain (trimmed_front t)) (trimmed_front t)
