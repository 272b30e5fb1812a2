-- Keys that are taken one by one from an ascending list.
use Rattle.std.proofs.Common.{◌≡◌, ℕ, ◌+◌, ◌<◌, ◌≤◌, List, [], ◌∷◌, ◌++◌, map, length, get_or, take, Some, None, sym, refl, ap, ◌∙◌, ⊎_elim, arith}
use Rattle.std.specs.List.{slice_get}
use Rattle.std.specs.Option.{option_map}
use Rattle.std.proofs.lemmas.List.{map_push, take_more, take_all}
use Rattle.std.proofs.lemmas.Option.{slice_get-get_or as nth-getD, slice_get_past as nth_past, slice_get-map, slice_get_read}
use Rattle.std.proofs.lemmas.Bool.{cases_lt}
use Rattle.keys.specs.Text.{Bytes}
use Rattle.keys.specs.StoreKeys.{text}
use Rattle.keys.specs.declared.store_key.StoreKey.{StoreKey}

module _ (xs : List Bytes) (n : ℕ) where
  pub below : (x : Bytes) → Some x ≡ slice_get xs n → n < length xs
  below x e = ⊎_elim (λ l. l) (λ p. absurd (let q = nth_past xs n p in let z : ◌≡◌ {A = ℕ} 0 1 = cc in omega arith)) (cases_lt n (length xs))

  pub past : None ≡ slice_get xs n → length xs ≤ n
  past e = ⊎_elim (λ l. absurd (let q = nth-getD xs n [] l in let z : ◌≡◌ {A = ℕ} 0 1 = cc in omega arith)) (λ p. p) (cases_lt n (length xs))

  pub one_more : (k : StoreKey) (ks js : List StoreKey) (m : ℕ) → Some (text k) ≡ slice_get xs n → map text ks ≡ take n xs → js ≡ ks ++ (k ∷ []) → m ≡ n + 1 → map text js ≡ take m xs
  one_more k ks js m e h p q =
      let l = below (text k) e in
      let g = nth-getD xs n [] l in
      let x : text k ≡ get_or xs n [] = cc in
      ap (map text) p
      ∙ (map_push text ks k
      ∙ (ap (λ t. t ++ (text k ∷ [])) h
      ∙ (ap (λ y. take n xs ++ (y ∷ [])) x ∙ (sym (take_more xs n [] l) ∙ ap (λ j. take j xs) (sym q)))))

  pub all_taken : (ks : List StoreKey) → None ≡ slice_get xs n → map text ks ≡ take n xs → map text ks ≡ xs
  all_taken ks e h = h ∙ take_all n xs (past e)

pub none_taken : (xs : List Bytes) (n : ℕ) (ks : List StoreKey) → ks ≡ [] → n ≡ 0 → map text ks ≡ take n xs
none_taken xs n ks e z = ap (map text) e ∙ ap (λ j. take j xs) (sym z)
