-- The temporary key of a key is a key.
use Rattle.std.proofs.Common.{◌≡◌, ℕ, zero, suc, ◌≤◌, false, eqb, ◌++◌, length, get_or, Some, None, Err, refl, arith}
use Rattle.std.proofs.lemmas.Bool.{lt-ltb, le-ltb}
use Rattle.keys.specs.Text.{Bytes, slash, KeyText, SlashFree}
use Rattle.keys.specs.Texts.{key_text-suffix, free_from}
use Rattle.keys.specs.StoreKeys.{MadeKey}
use Rattle.keys.specs.declared.store_key.StoreKeyError.{StoreKeyError}
use Rattle.keys.specs.declared.store_key.StoreKeyError.TheVariants.{TooLong, Invalid}
use Rattle.storage.specs.Faults.{from_key}
use Rattle.atomic_write.specs.Exports.{suffix, temporary, temporary_no}

-- no byte of the suffix is a slash
suffix_free : (j : ℕ) → get_or suffix j 0 ≡ slash → ⊥
suffix_free zero e = let n : ◌≡◌ {A = ℕ} 46 47 = e in omega arith
suffix_free (suc zero) e = let n : ◌≡◌ {A = ℕ} 116 47 = e in omega arith
suffix_free (suc (suc zero)) e = let n : ◌≡◌ {A = ℕ} 109 47 = e in omega arith
suffix_free (suc (suc (suc zero))) e = let n : ◌≡◌ {A = ℕ} 112 47 = e in omega arith
suffix_free (suc (suc (suc (suc j)))) e = let n : ◌≡◌ {A = ℕ} 0 47 = e in omega arith

pub suffix-slash_free : SlashFree suffix
suffix-slash_free = free_from suffix (λ j h. suffix_free j)

pub temporary-text : (k : Bytes) → KeyText k → KeyText (temporary k)
unfolding temporary
temporary-text k t = key_text-suffix k suffix t suffix-slash_free

module _ (k : Bytes) (n : eqb (length k) 0 ≡ false) where
  -- a key's temporary key is refused for its length alone
  pub no_temporary : (e : StoreKeyError) → KeyText k → MadeKey (k ++ suffix) (Err e) → temporary_no k ≡ Some (from_key e)
  unfolding temporary
  no_temporary TooLong t h = rw (n, lt-ltb 120 (length (k ++ suffix)) h) refl
  no_temporary Invalid t h = absurd (h.1 (temporary-text k t))

  pub has_temporary : length (k ++ suffix) ≤ 120 → temporary_no k ≡ None
  unfolding temporary
  has_temporary h = rw (n, le-ltb 120 (length (k ++ suffix)) h) refl
