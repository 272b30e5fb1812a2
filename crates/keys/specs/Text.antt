-- Texts of keys and prefixes, as lists of bytes: their rules, and their parts.
use Rattle.std.specs.Prelude.{◌≡◌, ℕ, ◌-◌, List, [], ◌∷◌, ◌++◌, length, take, replicate, ◌≢◌}

-- a text
abbrev pub Bytes : Type 0
Bytes = List ℕ

-- the byte `/`
abbrev pub slash : ℕ
slash = 47

-- t begins with p
abbrev pub Begins : Bytes → Bytes → Type 0
Begins t p = (rest : Bytes) × (t ≡ p ++ rest)

-- the first character is a slash
abbrev pub BeginsSlash : Bytes → Type 0
BeginsSlash t = (u : Bytes) × (t ≡ slash ∷ u)

-- b is the final character
abbrev pub Final : Bytes → ℕ → Type 0
Final t b = (u : Bytes) × (t ≡ u ++ (b ∷ []))

-- the final character is a slash
abbrev pub EndsSlash : Bytes → Type 0
EndsSlash t = Final t slash

-- two slashes stand side by side
abbrev pub DoubleSlash : Bytes → Type 0
DoubleSlash t = (u : Bytes) × (v : Bytes) × (t ≡ u ++ (slash ∷ slash ∷ v))

-- the final character, if there is any, is a slash
abbrev pub FinalSlash : Bytes → Type 0
FinalSlash t = (b : ℕ) → Final t b → b ≡ slash

-- no character is a slash
abbrev pub SlashFree : Bytes → Type 0
SlashFree t = (u v : Bytes) → t ≢ u ++ (slash ∷ v)

-- the rule of a key: the final character is no slash (the specification's rule); the first is none either, and no two slashes stand side by side
abbrev pub KeyText : Bytes → Type 0
KeyText t = (EndsSlash t → ⊥) × (BeginsSlash t → ⊥) × (DoubleSlash t → ⊥)

-- the rule of a prefix: it ends with a trailing slash (the specification's rule) or is empty, the root; the first character is no slash
abbrev pub PrefixText : Bytes → Type 0
PrefixText t = FinalSlash t × (BeginsSlash t → ⊥)

-- p is the text t through its last slash, or empty where t has none
abbrev pub Parent : Bytes → Bytes → Type 0
Parent t p = (last : Bytes) × (t ≡ p ++ last) × SlashFree last × FinalSlash p

-- the text of the prefix that a key's text becomes: with a slash behind it, but for the root
abbrev pub as_prefix : Bytes → Bytes
as_prefix [] = []
as_prefix (b ∷ t) = b ∷ (t ++ (slash ∷ []))

-- a text less its final character
abbrev pub shortened : Bytes → Bytes
shortened t = take (length t - 1) t

-- a text with zeros behind it, n bytes in all
abbrev pub padded : ℕ → Bytes → Bytes
padded n t = t ++ replicate (n - length t) 0
