-- What a StoreKey means: its text, and what making one answers.
use Rattle.std.specs.Prelude.{◌≡◌, ℕ, ◌<◌, ◌≤◌, length, Ok, Err, Result}
use Rattle.keys.specs.Text.{Bytes, KeyText}
use Rattle.keys.specs.declared.store_key.StoreKey.{StoreKey}
use Rattle.keys.specs.declared.store_key.StoreKeyError.{StoreKeyError}
use Rattle.keys.specs.declared.store_key.StoreKeyError.TheVariants.{TooLong, Invalid}

-- the text of a key
abbrev pub text : StoreKey → Bytes
text k = k.text

-- the number of a refusal
abbrev pub key_fault : StoreKeyError → ℕ
key_fault TooLong = 3
key_fault Invalid = 1

-- t is too long for a key (asked first), breaks the rule (asked next), or is the key's text
abbrev pub MadeKey : Bytes → Result StoreKey StoreKeyError → Type 0
MadeKey t (Err TooLong) = 120 < length t
MadeKey t (Err Invalid) = (length t ≤ 120) × (KeyText t → ⊥)
MadeKey t (Ok k) = (length t ≤ 120) × KeyText t × (text k ≡ t)
