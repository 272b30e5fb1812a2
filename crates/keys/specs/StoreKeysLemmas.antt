-- Keys are known by their texts.
use Rattle.std.specs.Prelude.{◌≡◌, ◌≤◌, length, Ok, Err, Result, refl}
use Rattle.std.proofs.Common.{arith}
use mathlib.Core.HLevel.{is_prop→PathP}
use Rattle.std.proofs.Math.Bridge.{le_prop}
use Rattle.keys.specs.Texts.{key_text_prop}
use Rattle.keys.specs.Text.{Bytes, KeyText}
use Rattle.keys.specs.StoreKeys.{text, MadeKey}
use Rattle.keys.specs.declared.store_key.StoreKeyError.{StoreKeyError}
use Rattle.keys.specs.declared.store_key.StoreKeyError.TheVariants.{TooLong, Invalid}
use Rattle.keys.specs.declared.store_key.StoreKey.{StoreKey}

pub text_injective : (a b : StoreKey) → text a ≡ text b → a ≡ b
text_injective a b e = λ i. record {
  text = e i;
  within = is_prop→PathP (λ j. length (e j) ≤ 120) (λ j. le_prop) a.within b.within i;
  rule = is_prop→PathP (λ j. KeyText (e j)) (λ j. key_text_prop (e j)) a.rule b.rule i;
}

pub key_within : (k : StoreKey) → length (text k) ≤ 120
key_within k = k.within

pub key_rule : (k : StoreKey) → KeyText (text k)
key_rule k = k.rule

-- each text that is short enough and keeps the rule is that of a key
pub key_for : (t : Bytes) → length t ≤ 120 → KeyText t → (k : StoreKey) × (text k ≡ t)
key_for t l rule = (record { text = t; within = l; rule = rule }, refl)

-- what making a key answers where nothing is against it
pub key_accepted : (t : Bytes) (r : Result StoreKey StoreKeyError) → MadeKey t r → length t ≤ 120 → KeyText t → (k : StoreKey) × (r ≡ Ok k) × (text k ≡ t)
key_accepted t (Ok k) m l rule = (k, refl, m.2)
key_accepted t (Err TooLong) m l rule = absurd (omega arith)
key_accepted t (Err Invalid) m l rule = absurd (m.1 rule)
