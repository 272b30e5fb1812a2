-- The examples of keys and prefixes hold.
use Rattle.std.proofs.Common.{◌≡◌, ◌+◌, ◌≤◌, [], ◌∷◌, length, get_or, Ok, Err, sym, refl, ap, ◌∙◌, inl, inr, arith}
use Rattle.std.proofs.lemmas.Bool.{cases_eq}
use Rattle.keys.specs.Text.{Bytes, KeyText, PrefixText}
use Rattle.keys.specs.KeyExamples.{KeyExamples, NoKey, NoPrefix}
use Rattle.keys.specs.declared.store_key.StoreKeyError as key-error
use Rattle.keys.specs.declared.store_prefix.StorePrefixError as prefix-error
use Rattle.keys.specs.StoreKeysLemmas.{key_accepted}
use Rattle.keys.specs.StorePrefixesLemmas.{prefix_accepted}
use Rattle.keys.specs.Texts.{begins_at, double_at, ends_at, final_from_ends, key_text, key_text_nil, prefix_text_lem, not_beginning, not_double, not_ending, prefix_not_beginning}

refused_key : (t : Bytes) → length t ≤ 120 → (KeyText t → ⊥) → NoKey t
refused_key t l n (Ok k) m = absurd (n m.1)
refused_key t l n (Err key-error.TheVariants.TooLong) m = absurd (omega arith)
refused_key t l n (Err key-error.TheVariants.Invalid) m = (key-error.TheVariants.Invalid, refl, refl)

refused_prefix : (t : Bytes) → length t ≤ 121 → (PrefixText t → ⊥) → NoPrefix t
refused_prefix t l n (Ok p) m = absurd (n m.1)
refused_prefix t l n (Err prefix-error.TheVariants.TooLong) m = absurd (omega arith)
refused_prefix t l n (Err prefix-error.TheVariants.Invalid) m = (prefix-error.TheVariants.Invalid, refl, refl)

plain_key : KeyText (97 ∷ [])
plain_key = key_text (97 ∷ []) (λ h. omega (arith, (begins_at (97 ∷ []) h).1)) (λ h. omega (arith, (ends_at (97 ∷ []) h).1)) (λ h. omega (arith, (double_at (97 ∷ []) h).1))

nested_key : KeyText (97 ∷ 47 ∷ 98 ∷ [])
nested_key =
    let t : Bytes = 97 ∷ 47 ∷ 98 ∷ [] in
    key_text
    t
    (λ h. omega (arith, (begins_at t h).1))
    (λ h. omega (arith, (ends_at t h).1))
    (λ h.
    let (i, l, p, q) = double_at t h in
    elim (cases_eq i 0) [
      | inl e ↦ omega (arith, ap (λ j. get_or t j 0) (sym e) ∙ p)
      | inr n ↦ let e : i + 1 ≡ 2 = omega arith in omega (arith, ap (λ j. get_or t j 0) (sym e) ∙ q)
    ])

pub key_examples : KeyExamples
key_examples = record {
  root = λ r m. key_accepted [] r m (omega arith) key_text_nil;
  plain = λ r m. key_accepted (97 ∷ []) r m (omega arith) plain_key;
  nested = λ r m. key_accepted (97 ∷ 47 ∷ 98 ∷ []) r m (omega arith) nested_key;
  slash_first = refused_key (47 ∷ 97 ∷ []) (omega arith) (λ k. not_beginning (47 ∷ 97 ∷ []) k (97 ∷ [], refl));
  slash_last = refused_key (97 ∷ 47 ∷ []) (omega arith) (λ k. not_ending (97 ∷ 47 ∷ []) k (97 ∷ [], refl));
  slash_double = refused_key (97 ∷ 47 ∷ 47 ∷ 98 ∷ []) (omega arith) (λ k. not_double (97 ∷ 47 ∷ 47 ∷ 98 ∷ []) k (97 ∷ [], 98 ∷ [], refl));
  prefix_double = λ r m. prefix_accepted (97 ∷ 47 ∷ 47 ∷ []) r m (omega arith) (prefix_text_lem (97 ∷ 47 ∷ 47 ∷ []) (final_from_ends (97 ∷ 47 ∷ 47 ∷ []) (97 ∷ 47 ∷ [], refl)) (λ h. omega (arith, (begins_at (97 ∷ 47 ∷ 47 ∷ []) h).1)));
  prefix_slash = refused_prefix (47 ∷ []) (omega arith) (λ p. prefix_not_beginning (47 ∷ []) p ([], refl));
}
