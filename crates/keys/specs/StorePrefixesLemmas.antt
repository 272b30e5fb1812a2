-- Prefixes are known by their texts.
use Rattle.std.specs.Prelude.{◌≡◌, ◌≤◌, length, Ok, Err, Result, refl}
use Rattle.std.proofs.Common.{arith}
use mathlib.Core.HLevel.{is_prop→PathP}
use Rattle.std.proofs.Math.Bridge.{le_prop}
use Rattle.keys.specs.Text.{Bytes, PrefixText}
use Rattle.keys.specs.StorePrefixes.{prefix_text, MadePrefix}
use Rattle.keys.specs.declared.store_prefix.StorePrefixError.{StorePrefixError}
use Rattle.keys.specs.declared.store_prefix.StorePrefixError.TheVariants.{TooLong, Invalid}
use Rattle.keys.specs.declared.store_prefix.StorePrefix.{StorePrefix}
use Rattle.keys.specs.Texts.{prefix_text_prop}

pub prefix_text_injective : (a b : StorePrefix) → prefix_text a ≡ prefix_text b → a ≡ b
prefix_text_injective a b e = λ i. record {
  text = e i;
  within = is_prop→PathP (λ j. length (e j) ≤ 121) (λ j. le_prop) a.within b.within i;
  rule = is_prop→PathP (λ j. PrefixText (e j)) (λ j. prefix_text_prop (e j)) a.rule b.rule i;
}

pub prefix_within : (p : StorePrefix) → length (prefix_text p) ≤ 121
prefix_within p = p.within

pub prefix_rule : (p : StorePrefix) → PrefixText (prefix_text p)
prefix_rule p = p.rule

-- each text that is short enough and keeps the rule is that of a prefix
pub prefix_for : (t : Bytes) → length t ≤ 121 → PrefixText t → (p : StorePrefix) × (prefix_text p ≡ t)
prefix_for t l rule = (record { text = t; within = l; rule = rule }, refl)

-- what making a prefix answers where nothing is against it
pub prefix_accepted : (t : Bytes) (r : Result StorePrefix StorePrefixError) → MadePrefix t r → length t ≤ 121 → PrefixText t → (p : StorePrefix) × (r ≡ Ok p) × (prefix_text p ≡ t)
prefix_accepted t (Ok p) m l rule = (p, refl, m.2)
prefix_accepted t (Err TooLong) m l rule = absurd (omega arith)
prefix_accepted t (Err Invalid) m l rule = absurd (m.1 rule)
