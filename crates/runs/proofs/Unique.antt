-- The laws fix the contents: two that a run's laws hold of are one.
use Rattle.std.proofs.Common.{◌≡◌, ◌-◌, Bool, true, false, [], ◌∷◌, ◌++◌, length, take, drop, Some, None, sym, refl, ap, ◌∙◌}
use Rattle.std.proofs.lemmas.List.{take-append-drop}
use Rattle.keys.specs.Text.{Bytes}
use Rattle.storage.specs.Contents.{Contents, Entry, same, earlier, found, keys_of, Ascending}
use Rattle.storage.proofs.Order.{same_true, eq_same, earlier_back}
use Rattle.storage.proofs.Finds.{found_skip, found_here}
use Rattle.storage.proofs.Ascends.{after_cons, after_trans, ascending_parts}
use Rattle.storage.proofs.Places.{found_after}
use Rattle.atomic_write.specs.Exports.{temporary, suffix}
use Rattle.runs.specs.Labels.{is_temporary}
use Rattle.runs.specs.Events.{Run}
use Rattle.runs.specs.Laws.{Lawful}
use Rattle.runs.proofs.Stood.{none_some}
use Rattle.runs.proofs.Whole.{lawful_held, lawful_stood}

-- a key that comes before the first of ascending contents is not in them
not_ahead : (x y : Entry) (ys : Contents) → Ascending (y ∷ ys) → earlier x.key y.key ≡ true → found x.key (y ∷ ys) ≡ None
not_ahead x y ys a q =
    found_after x.key (y ∷ ys) (after_cons x.key y.key (keys_of ys) q (after_trans x.key y.key (keys_of ys) q (ascending_parts y.key (keys_of ys) a).0))

-- the first key is not behind itself
not_behind : (x : Entry) (xs : Contents) (k : Bytes) → Ascending (x ∷ xs) → k ≡ x.key → found k xs ≡ None
not_behind x xs k a e = ap (λ (j : Bytes). found j xs) e ∙ found_after x.key xs (ascending_parts x.key (keys_of xs) a).0

found_first : (x : Entry) (xs : Contents) → found x.key (x ∷ xs) ≡ Some x.value
found_first x xs = found_here x.key x xs (eq_same x.key x.key refl)

-- contents are known by what is found in them
found_all : (c d : Contents) → Ascending c → Ascending d → ((k : Bytes) → found k c ≡ found k d) → c ≡ d
unfolding found
found_all [] [] a b h = refl
found_all [] (y ∷ ys) a b h = none_some (h y.key ∙ found_first y ys)
found_all (x ∷ xs) [] a b h = none_some (sym (h x.key) ∙ found_first x xs)
found_all (x ∷ xs) (y ∷ ys) a b h =
    go (found_all xs ys (ascending_parts x.key (keys_of xs) a).1 (ascending_parts y.key (keys_of ys) b).1) (same x.key y.key) (earlier x.key y.key) refl refl
  where
    rest : same x.key y.key ≡ true → (k : Bytes) (t : Bool) → same k x.key ≡ t → found k xs ≡ found k ys
    rest p k true q =
        let e = same_true k x.key q in
        not_behind x xs k a e ∙ sym (not_behind y ys k b (e ∙ same_true x.key y.key p))
    rest p k false q =
        sym (found_skip k x xs q) ∙ h k ∙ found_skip k y ys (ap (same k) (sym (same_true x.key y.key p)) ∙ q)

    go : (((k : Bytes) → found k xs ≡ found k ys) → xs ≡ ys) → (s e : Bool) → same x.key y.key ≡ s → earlier x.key y.key ≡ e → x ∷ xs ≡ y ∷ ys
    go ih true e p q =
        let v : x.value ≡ y.value = let w = sym (found_first x xs) ∙ h x.key ∙ found_here x.key y ys p in cc in
        let k = same_true x.key y.key p in
        let r = ih (λ j. rest p j (same j x.key) refl) in
        (λ i. record { key = k i; value = v i } ∷ r i)
    go ih false true p q = none_some (sym (not_ahead x y ys b q) ∙ sym (h x.key) ∙ found_first x xs)
    go ih false false p q = none_some (sym (not_ahead y x xs a (earlier_back x.key y.key p q)) ∙ h y.key ∙ found_first y ys)

-- a key that ends in ".tmp" is a temporary
temporary_of : (k : Bytes) → is_temporary k ≡ true → k ≡ temporary (take (length k - 4) k)
unfolding is_temporary temporary
temporary_of k q =
    sym (take-append-drop (length k - 4) k)
    ∙ ap (λ (x : Bytes). take (length k - 4) k ++ x) (same_true (drop (length k - 4) k) suffix q)

pub lawful_unique : {h : Run} {c d : Contents} → Lawful h c → Lawful h d → Ascending c → Ascending d → c ≡ d
lawful_unique {h} {c} {d} x y a b = found_all c d a b (λ k. go k (is_temporary k) refl)
  where
    go : (k : Bytes) (t : Bool) → is_temporary k ≡ t → found k c ≡ found k d
    go k true q =
        let j = take (length k - 4) k in
        let e = temporary_of k q in
        ap (λ (i : Bytes). found i c) e ∙ lawful_stood x j ∙ sym (lawful_stood y j) ∙ sym (ap (λ (i : Bytes). found i d) e)
    go k false q = lawful_held x k q ∙ sym (lawful_held y k q)
