-- What is gathered of more and more keys.
use Rattle.std.proofs.Common.{◌≡◌, ℕ, ◌+◌, ◌-◌, ◌<◌, ◌≤◌, true, ◌⊎◌, List, [], ◌∷◌, ◌++◌, length, get_or, take, Some, None, Option, Ordering, Less, Equal, Greater, sym, refl, ap, ◌∙◌, subst, inl, inr, ⊎_elim, append-nil, arith}
use Rattle.std.specs.List.{slice_get, ContainsAt as Has, AllByRecursion}
use Rattle.std.specs.Option.{option_map}
use Rattle.std.specs.Ordering.{is_lt}
use Rattle.std.specs.List.Sorted.{IsStrictlySortedBy}
use Rattle.std.proofs.ByRecursion.{All-weaker, all_has_itself, has_append_left, has_get_or, has_push, has_push_cases}
use Rattle.std.proofs.lemmas.Map.Keys.{Less-from_sorted}
use Rattle.std.proofs.lemmas.List.{take_more, take_all, get_or-take, get_or_push, length_push, length-take-le}
use Rattle.std.proofs.lemmas.Option.{slice_get-get_or, slice_get_past}
use Rattle.std.proofs.lemmas.Bool.{cases_lt}
use Rattle.order.proofs.Orders.{not_below_itself}
use Rattle.order.proofs.SortedLists.{sorted_insert}
use Rattle.keys.specs.ByteOrder.{compare_bytes}
use Rattle.keys.specs.Rows.{row_text}
use Rattle.keys.specs.StoreKeys.{text}
use Rattle.keys.specs.declared.store_key.StoreKey.{StoreKey}
use Rattle.keys.specs.Text.{Bytes, padded}
use Rattle.keys.specs.declared.row.Row.{Row}
use Rattle.keys.specs.ByteOrderLemmas.{bytes_lawful}
use Rattle.keys.specs.Padded.{take-padded}
use Rattle.storage.specs.Contents.{earlier, all_after, ascending}
use Rattle.storage.proofs.Ascends.{after_parts, ascending_parts}
use Rattle.storage.proofs.Order.{clash}
use Rattle.listings.specs.Listings.{Exactly, row_for}
use Rattle.listings.specs.StoredKeys.{GivesKey}
use Rattle.listings.specs.Picks.{Chosen, Picks, Gathered, Counts, Counted}
use Rattle.listings.specs.declared.gather.Tally.{Tally}
use Rattle.listings.specs.declared.pick.Selection.{Selection}
use Rattle.listings.specs.declared.pick.Selection.TheVariants.{Keys, KeysUnder, DirectKeys, Prefixes, Children}
use Rattle.listings.proofs.Children.{extends_unique, extends_order}
use Rattle.listings.proofs.SortedSets.{has_none, sorted_same}

-- ascending keys as a sorted list

less_from_earlier : (a b : Bytes) → earlier a b ≡ true → compare_bytes a b ≡ Less
unfolding earlier
less_from_earlier a b h = go (compare_bytes a b) h
  where
    go : (o : Ordering) → is_lt o ≡ true → o ≡ Less
    go Less h = refl
    go Equal h = clash _ h refl
    go Greater h = clash _ h refl

all_later : (k : Bytes) (ks : List Bytes) → all_after k ks ≡ true → AllByRecursion (λ j. compare_bytes k j ≡ Less) ks
all_later k [] h = tt
all_later k (j ∷ js) h = let p = after_parts k j js h in (less_from_earlier k j p.0, all_later k js p.1)

pub sorted_from_ascending : (ks : List Bytes) → ascending ks ≡ true → IsStrictlySortedBy compare_bytes ks
unfolding IsStrictlySortedBy
sorted_from_ascending [] h = tt
sorted_from_ascending (k ∷ ks) h = let p = ascending_parts k ks h in (all_later k ks p.0, sorted_from_ascending ks p.1)

-- the key at n, by what `key_at` answers

pub key_there : (ks : List Bytes) (n : ℕ) (k : Bytes) → Some k ≡ slice_get ks n → (n < length ks) × (get_or ks n k ≡ k)
key_there ks n k e =
    elim (cases_lt n (length ks)) [
      | inl l ↦ let h = slice_get-get_or ks n k l in (l, cc)
      | inr l ↦ let h = slice_get_past ks n l in absurd (let z : ◌≡◌ {A = ℕ} 0 1 = cc in omega arith)
    ]

pub no_key : (ks : List Bytes) (n : ℕ) → None ≡ slice_get ks n → length ks ≤ n
no_key ks n e =
    elim (cases_lt n (length ks)) [
      | inl l ↦ let h = slice_get-get_or ks n [] l in absurd (let z : ◌≡◌ {A = ℕ} 0 1 = cc in omega arith)
      | inr l ↦ l
    ]

-- the same of an iterator's next key, where it goes over the store z

pub given_key : {S : Type 0} (keys : S → List Bytes) (s z : S) (n m : ℕ) (k : StoreKey) → s ≡ z → GivesKey (keys s) n (Some k) m → (Some (text k) ≡ slice_get (keys z) n) × (m ≡ n + 1)
given_key keys s z n m k e (there, next) = (there ∙ ap (λ x. slice_get (keys x) n) e, next)

pub given_none : {S : Type 0} (keys : S → List Bytes) (s z : S) (n m : ℕ) → s ≡ z → GivesKey (keys s) n None m → None ≡ slice_get (keys z) n
given_none keys s z n m e (none, next) = none ∙ ap (λ x. slice_get (keys x) n) e

-- rows are known by their texts

pub row_injective : (t u : Bytes) → row_for t ≡ row_for u → t ≡ u
row_injective t u e = sym (take-padded 121 t (padded 121 t) refl) ∙ ap row_text e ∙ take-padded 121 u (padded 121 u) refl

-- what is gathered, in one list only

pub exactly_unique : (P : Bytes → Type 0) (ts us : List Bytes) → Exactly P ts → Exactly P us → us ≡ ts
exactly_unique P ts us x y = sorted_same bytes_lawful us ts y.ascends x.ascends (λ z h. x.all z (y.each z h)) (λ z h. y.all z (x.each z h))

pub exactly_like : (P Q : Bytes → Type 0) (ts : List Bytes) → ((t : Bytes) → P t → Q t) → ((t : Bytes) → Q t → P t) → Exactly P ts → Exactly Q ts
exactly_like P Q ts f g x = record { ascends = x.ascends; each = λ t h. f t (x.each t h); all = λ t h. x.all t (g t h) }

-- what one key gives

chosen_unique : (s : Selection) (p k t u : Bytes) → Chosen s p k t → Chosen s p k u → t ≡ u
chosen_unique Keys p k t u x y = x ∙ sym y
chosen_unique KeysUnder p k t u x y = x.0 ∙ sym y.0
chosen_unique DirectKeys p k t u x y = x.0 ∙ sym y.0
chosen_unique Prefixes p k t u x y = extends_unique p k t u x y
chosen_unique Children p k t u x y = extends_unique p k t u x.0 y.0

chosen_order : (s : Selection) (p j k t u : Bytes) → compare_bytes j k ≡ Less → Chosen s p j t → Chosen s p k u → (t ≡ u) ⊎ (compare_bytes t u ≡ Less)
chosen_order Keys p j k t u l x y = inr ((λ i. compare_bytes (x i) (y i)) ∙ l)
chosen_order KeysUnder p j k t u l x y = inr ((λ i. compare_bytes (x.0 i) (y.0 i)) ∙ l)
chosen_order DirectKeys p j k t u l x y = inr ((λ i. compare_bytes (x.0 i) (y.0 i)) ∙ l)
chosen_order Prefixes p j k t u l x y = extends_order p j k t u x y l
chosen_order Children p j k t u l x y = extends_order p j k t u x.0 y.0 l

sorted_push : (ts : List Bytes) (t : Bytes) → IsStrictlySortedBy compare_bytes ts → AllByRecursion (λ u. compare_bytes u t ≡ Less) ts → IsStrictlySortedBy compare_bytes (ts ++ (t ∷ []))
sorted_push ts t s a = sorted_insert compare_bytes ts [] t (subst (IsStrictlySortedBy compare_bytes) (sym (append-nil ts)) s) a tt

-- one more key, which comes after all before
module _ (s : Selection) (p : Bytes) (ks : List Bytes) (k : Bytes) (later : (j : Bytes) → Has ks j → compare_bytes j k ≡ Less) where
  abbrev more : List Bytes
  more = ks ++ (k ∷ [])

  from_more : (t : Bytes) → Gathered s p more t → Gathered s p ks t ⊎ Chosen s p k t
  from_more t (j, h, x) = ⊎_elim (λ g. inl (j, g, x)) (λ e. inr (subst (λ z. Chosen s p z t) (sym e) x)) (has_push_cases ks k j h)

  to_more : (t : Bytes) → Gathered s p ks t → Gathered s p more t
  to_more t (j, h, x) = (j, has_append_left ks (k ∷ []) j h, x)

  pub gather_none : (ts : List Bytes) → Exactly (Gathered s p ks) ts → ((t : Bytes) → Chosen s p k t → ⊥) → Exactly (Gathered s p more) ts
  gather_none ts x none =
      exactly_like (Gathered s p ks) (Gathered s p more) ts to_more (λ t g. ⊎_elim (λ h. h) (λ h. absurd (none t h)) (from_more t g)) x

  pub gather_again : (ts : List Bytes) (t : Bytes) → Exactly (Gathered s p ks) ts → Chosen s p k t → Has ts t → Exactly (Gathered s p more) ts
  gather_again ts t x y has =
      exactly_like (Gathered s p ks) (Gathered s p more) ts to_more
      (λ u g. ⊎_elim (λ h. h) (λ h. subst (Gathered s p ks) (chosen_unique s p k t u y h) (x.each t has)) (from_more u g)) x

  not_after : (ts : List Bytes) (t u : Bytes) → Exactly (Gathered s p ks) ts → Chosen s p k t → Has ts u → (u ≡ t) ⊎ (compare_bytes u t ≡ Less)
  not_after ts t u x y h = let (j, g, z) = x.each u h in chosen_order s p j k u t (later j g) z y

  pub gather_new : (ts : List Bytes) (t : Bytes) → Exactly (Gathered s p ks) ts → Chosen s p k t → (Has ts t → ⊥) → Exactly (Gathered s p more) (ts ++ (t ∷ []))
  gather_new ts t x y new =
      record {
        ascends = sorted_push ts t x.ascends (All-weaker (Has ts) (λ u. compare_bytes u t ≡ Less) (λ u h. ⊎_elim (λ e. absurd (new (subst (Has ts) e h))) (λ l. l) (not_after ts t u x y h)) ts (all_has_itself ts));
        each = λ u h. ⊎_elim (λ g. to_more u (x.each u g)) (λ e. (k, has_push ks k, subst (Chosen s p k) e y)) (has_push_cases ts t u h);
        all = λ u g. ⊎_elim (λ h. has_append_left ts (t ∷ []) u (x.all u h)) (λ h. subst (Has (ts ++ (t ∷ []))) (chosen_unique s p k t u y h) (has_push ts t)) (from_more u g);
      }

  -- a text that is not the last is none of those before
  pub new_from_last : (ts : List Bytes) (t : Bytes) → Exactly (Gathered s p ks) ts → Chosen s p k t → (0 < length ts → get_or ts (length ts - 1) [] ≡ t → ⊥) → Has ts t → ⊥
  new_from_last ts t x y other (i, l, at) =
      let e : Bytes = get_or ts (length ts - 1) [] in
      elim (cases_lt i (length ts - 1)) [
        | inr h ↦ let q : length ts - 1 ≡ i = omega arith in other (omega arith) (ap (λ j. get_or ts j []) q ∙ at [])
        | inl h ↦
            let below : compare_bytes t e ≡ Less = ap (λ z. compare_bytes z e) (sym (at [])) ∙ Less-from_sorted compare_bytes ts i (length ts - 1) [] x.ascends h (omega arith) in
            ⊎_elim
            (other (omega arith))
            (λ g. not_below_itself bytes_lawful t (bytes_lawful.transitive t e t below g))
            (not_after ts t e x y (has_get_or ts (length ts - 1) [] (omega arith)))
      ]

-- counting

abbrev last_row : List Bytes → Option Row
last_row ts = option_map row_for (slice_get ts (length ts - 1))

last_some : (ts : List Bytes) → 0 < length ts → last_row ts ≡ Some (row_for (get_or ts (length ts - 1) []))
last_some ts l = ap (option_map row_for) (slice_get-get_or ts (length ts - 1) [] (omega arith))

last_push : (ts : List Bytes) (t : Bytes) → last_row (ts ++ (t ∷ [])) ≡ Some (row_for t)
last_push ts t =
    last_some (ts ++ (t ∷ [])) (omega (arith, length_push ts t))
    ∙ ap (λ z. Some (row_for z)) (ap (λ j. get_or (ts ++ (t ∷ [])) (j - 1) []) (length_push ts t) ∙ get_or_push ts t [] (length ts + 1 - 1) (omega arith))

has_last : (ts : List Bytes) (t : Bytes) → last_row ts ≡ Some (row_for t) → Has ts t
has_last ts t e =
    elim (cases_lt 0 (length ts)) [
      | inl l ↦
          let h = last_some ts l in
          let q : row_for (get_or ts (length ts - 1) []) ≡ row_for t = cc in
          subst (Has ts) (row_injective (get_or ts (length ts - 1) []) t q) (has_get_or ts (length ts - 1) [] (omega arith))
      | inr l ↦
          let h = ap (option_map row_for) (slice_get_past ts (length ts - 1) (omega arith)) in
          absurd (let z : ◌≡◌ {A = ℕ} 0 1 = cc in omega arith)
    ]

abbrev pub Tallied : Selection → Bytes → List Bytes → Tally → Type 0
Tallied s p ks a = (ts : List Bytes) × Exactly (Gathered s p ks) ts × (a.count ≡ length ts) × (a.last ≡ last_row ts)

pub gather_nothing : (s : Selection) (p : Bytes) → Exactly (Gathered s p []) []
unfolding IsStrictlySortedBy
gather_nothing s p = record { ascends = tt; each = λ t h. absurd (has_none t h); all = λ t g. absurd (has_none g.0 g.1) }

module _ (s : Selection) (p : Bytes) (ks : List Bytes) (k : Bytes) (later : (j : Bytes) → Has ks j → compare_bytes j k ≡ Less) (a b : Tally) where
  pub tally_more : (o : Option Row) → Tallied s p ks a → Picks s p k o → Counts a o b → Tallied s p (ks ++ (k ∷ [])) b
  tally_more None (ts, x, n, last) none e = subst (Tallied s p (ks ++ (k ∷ []))) (sym e) (ts, gather_none s p ks k later ts x none, n, last)
  tally_more (Some row) (ts, x, n, last) (t, y, is) (inl (new, m, is_last)) = (
    ts ++ (t ∷ []),
    gather_new s p ks k later ts t x y
        (new_from_last s p ks k later ts t x y (λ l e. new (last ∙ last_some ts l ∙ ap (λ z. Some (row_for z)) e ∙ ap Some (sym is)))),
    m ∙ ap (λ j. j + 1) n ∙ sym (length_push ts t),
    is_last ∙ ap Some is ∙ sym (last_push ts t),
  )
  tally_more (Some row) (ts, x, n, last) (t, y, is) (inr (old, e)) =
      subst (Tallied s p (ks ++ (k ∷ []))) (sym e) (ts, gather_again s p ks k later ts t x y (has_last ts t (sym last ∙ old ∙ ap Some is)), n, last)

pub tally_none : (s : Selection) (p : Bytes) (ks : List Bytes) (n : ℕ) (a : Tally) → n ≡ 0 → a.count ≡ 0 → a.last ≡ None → (n ≤ length ks) × (a.count ≤ n) × Tallied s p (take n ks) a
tally_none s p ks n a e f last = (
  omega arith,
  omega arith,
  subst (λ j. Tallied s p (take j ks) a) (sym e) ([], gather_nothing s p, f, last),
)

-- keys in order, up to one
pub earlier_keys : (ks : List Bytes) (n : ℕ) (k : Bytes) → ascending ks ≡ true → n < length ks → get_or ks n k ≡ k → (j : Bytes) → Has (take n ks) j → compare_bytes j k ≡ Less
earlier_keys ks n k a l e j (i, h, at) =
    let m : length (take n ks) ≡ n = length-take-le n ks (omega arith) in
    (λ q. compare_bytes (sym (sym (get_or-take n ks i k (omega arith)) ∙ at k) q) (sym e q)) ∙ Less-from_sorted compare_bytes ks i n k (sorted_from_ascending ks a) (omega arith) l

count_step : (a b : Tally) (o : Option Row) (n : ℕ) → Counts a o b → a.count ≤ n → b.count ≤ n + 1
count_step a b None n e l = rw e (omega arith)
count_step a b (Some row) n (inl (_, m, _)) l = omega arith
count_step a b (Some row) n (inr (_, e)) l = rw e (omega arith)

-- one more turn, over the keys of a store
module _ (ks : List Bytes) (n : ℕ) (k : Bytes) (ascends : ascending ks ≡ true) (there : Some k ≡ slice_get ks n) where
  pub next_keys : take n ks ++ (k ∷ []) ≡ take (n + 1) ks
  next_keys = let h = key_there ks n k there in sym (take_more ks n k h.0 ∙ ap (λ z. take n ks ++ (z ∷ [])) h.1)

  pub next_later : (j : Bytes) → Has (take n ks) j → compare_bytes j k ≡ Less
  next_later = let h = key_there ks n k there in earlier_keys ks n k ascends h.0 h.1

  pub tally_next : (s : Selection) (p : Bytes) (a b : Tally) (o : Option Row) (m : ℕ) → m ≡ n + 1 → a.count ≤ n → Tallied s p (take n ks) a → Picks s p k o → Counts a o b → (m ≤ length ks) × (b.count ≤ m) × Tallied s p (take m ks) b
  tally_next s p a b o m e l t y c =
      subst (λ j. (j ≤ length ks) × (b.count ≤ j) × Tallied s p (take j ks) b) (sym e) (
        omega (arith, (key_there ks n k there).0),
        count_step a b o n c l,
        subst (λ z. Tallied s p z b) next_keys (tally_more s p (take n ks) k next_later a b o t y c),
      )

pub tally_all : (s : Selection) (p : Bytes) (ks : List Bytes) (n : ℕ) (a : Tally) → None ≡ slice_get ks n → Tallied s p (take n ks) a → Counted (Gathered s p ks) a.count
tally_all s p ks n a none (ts, x, m, _) = (ts, subst (λ z. Exactly (Gathered s p z) ts) (take_all n ks (no_key ks n none)) x, m)
