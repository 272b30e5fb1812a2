-- Rows filled with what is gathered.
use Rattle.std.proofs.Common.{◌≡◌, ℕ, ◌+◌, ◌<◌, ◌≤◌, Bool, true, false, ◌⊎◌, List, [], ◌∷◌, ◌++◌, map, length, get_or, take, drop, Some, None, Ok, Err, Option, Result, Less, sym, refl, ap, ◌∙◌, subst, inl, inr, ⊎_elim, arith, length-append, length-drop}
use Rattle.std.specs.List.{slice_get, ContainsAt as Has}
use Rattle.std.specs.Ordering.{ordering_then}
use Rattle.std.specs.Result.{result_unwrap_or}
use Rattle.std.specs.List.Sorted.{IsStrictlySortedBy}
use Rattle.std.proofs.ByRecursion.{All-map, All-weaker, has_append_left, has_push, has_push_cases}
use Rattle.std.proofs.lemmas.List.{get_or-map, get_or_default, length-map, length_push, map_push, take_at, take_all, take-append-drop}
use Rattle.std.proofs.lemmas.Slice.{drop-append-drop}
use Rattle.order.specs.SortedLists.{Inserted, Holding}
use Rattle.order.specs.declared.sorted_list.SortedListError.{SortedListError}
use Rattle.order.proofs.SortedLists.{has_first, has_cons_cases}
use Rattle.keys.specs.ByteOrder.{compare_bytes}
use Rattle.keys.specs.Rows.{compare_fields, compare_rows}
use Rattle.keys.specs.Text.{Bytes, padded}
use Rattle.keys.specs.declared.row.Row.{Row}
use Rattle.keys.specs.ByteOrderLemmas.{bytes_lawful}
use Rattle.keys.specs.Padded.{take-padded}
use Rattle.keys.specs.RowsLemmas.{rows_lawful}
use Rattle.ranges.specs.Buffers.{fronted}
use Rattle.storage.specs.Contents.{ascending, same}
use Rattle.storage.proofs.Order.{same_true, same_false}
use Rattle.listings.specs.Listings.{Exactly, row_for}
use Rattle.listings.specs.Picks.{Chosen, Picks, Gathered, Puts, Spacious, Filled}
use Rattle.listings.specs.declared.pick.Selection.{Selection}
use Rattle.listings.proofs.Gathers.{row_injective, exactly_unique, gather_none, gather_again, gather_new, gather_nothing, no_key, next_keys, next_later}
use Rattle.listings.proofs.SortedSets.{has_none, has_later, sorted_same, sorted_sub}

-- texts and their rows

pub has_row : (ts : List Bytes) (t : Bytes) → Has ts t → Has (map row_for ts) (row_for t)
has_row ts t (k, l, at) = (k, omega (arith, length-map ts row_for), λ d. get_or-map row_for ts k t d l ∙ ap row_for (at t))

pub has_text : (ts : List Bytes) (t : Bytes) → Has (map row_for ts) (row_for t) → Has ts t
has_text ts t (k, l, at) =
    let h : k < length ts = omega (arith, length-map ts row_for) in
    (k, h, λ d. get_or_default ts k d t h ∙ row_injective (get_or ts k t) t (sym (get_or-map row_for ts k t (row_for t) h) ∙ at (row_for t)))

less_rows : (t u : Bytes) → compare_bytes t u ≡ Less → compare_rows (row_for t) (row_for u) ≡ Less
less_rows t u l =
    ap (λ k. ordering_then k (compare_fields (row_for t) (row_for u)))
    ((λ i. compare_bytes (take-padded 121 t (padded 121 t) refl i) (take-padded 121 u (padded 121 u) refl i)) ∙ l)

sorted_rows : (ts : List Bytes) → IsStrictlySortedBy compare_bytes ts → IsStrictlySortedBy compare_rows (map row_for ts)
unfolding IsStrictlySortedBy
sorted_rows [] s = tt
sorted_rows (t ∷ ts) s =
    (All-map (λ w. compare_rows (row_for t) w ≡ Less) row_for ts (All-weaker (λ u. compare_bytes t u ≡ Less) (λ u. compare_rows (row_for t) (row_for u) ≡ Less) (less_rows t) ts s.0), sorted_rows ts s.1)

has_or_not : (ts : List Bytes) (t : Bytes) → Has ts t ⊎ (Has ts t → ⊥)
has_or_not [] t = inr (has_none t)
has_or_not (u ∷ ts) t = go (has_or_not ts t) (same t u) refl
  where
    go : Has ts t ⊎ (Has ts t → ⊥) → (b : Bool) → same t u ≡ b → Has (u ∷ ts) t ⊎ (Has (u ∷ ts) t → ⊥)
    go rest true e = inl (subst (Has (u ∷ ts)) (sym (same_true t u e)) (has_first u ts))
    go rest false e = ⊎_elim (λ h. inl (has_later u ts t h)) (λ h. inr (λ w. ⊎_elim (same_false t u e) h (has_cons_cases u ts t w))) rest

-- filling

abbrev pub Filling : Selection → Bytes → List Bytes → List Row → ℕ → List Row → Type 0
Filling s p ks before n rows = (ts : List Bytes) × Exactly (Gathered s p ks) ts × (n ≡ length ts) × (rows ≡ fronted (map row_for ts) before) × (n ≤ length before)

-- one more key, which comes after all before, finds room
module _ (s : Selection) (p : Bytes) (ks : List Bytes) (k : Bytes) (later : (j : Bytes) → Has ks j → compare_bytes j k ≡ Less) (before rows after : List Row) (n m : ℕ) (room : (ts : List Bytes) → Exactly (Gathered s p (ks ++ (k ∷ []))) ts → length ts ≤ length before) where
  abbrev more : List Bytes
  more = ks ++ (k ∷ [])

  module _ (ts : List Bytes) (x : Exactly (Gathered s p ks) ts) (size : n ≡ length ts) (is : rows ≡ fronted (map row_for ts) before) (fits : n ≤ length before) (t : Bytes) (y : Chosen s p k t) where
    front : take n rows ≡ map row_for ts
    front = ap (take n) is ∙ take_at (map row_for ts) (drop (length (map row_for ts)) before) n (length-map ts row_for ∙ sym size)

    long : length rows ≡ length before
    long = ap length is ∙ length-append (map row_for ts) (drop (length (map row_for ts)) before) ∙ simp length-drop (omega (arith, length-map ts row_for))

    sorted : IsStrictlySortedBy compare_rows (take n rows)
    sorted = subst (IsStrictlySortedBy compare_rows) (sym front) (sorted_rows ts x.ascends)

    there : Has ts t → Has (take n rows) (row_for t)
    there h = subst (λ z. Has z (row_for t)) (sym front) (has_row ts t h)

    not_there : (Has ts t → ⊥) → Has (take n rows) (row_for t) → ⊥
    not_there none h = none (has_text ts t (subst (λ z. Has z (row_for t)) front h))

    -- a row that is new stands behind the others
    behind : (Has ts t → ⊥) → Holding compare_rows rows n (row_for t) after m → Filling s p more before m after
    behind none h =
        let new : List Bytes = ts ++ (t ∷ []) in
        let z : Exactly (Gathered s p more) new = gather_new s p ks k later ts t x y none in
        let one : m ≡ n + 1 = h.added (not_there none) in
        let count : m ≡ length new = one ∙ ap (λ j. j + 1) size ∙ sym (length_push ts t) in
        let push : map row_for new ≡ map row_for ts ++ (row_for t ∷ []) = map_push row_for ts t in
        let same-front : take m after ≡ map row_for new =
        sorted_same rows_lawful (take m after) (map row_for new) h.ascends (sorted_rows new z.ascends)
        (λ w g. subst (λ l. Has l w) (sym push)
        (⊎_elim (λ v. has_append_left (map row_for ts) (row_for t ∷ []) w (subst (λ l. Has l w) front v)) (λ e. subst (Has (map row_for ts ++ (row_for t ∷ []))) (sym e) (has_push (map row_for ts) (row_for t))) (h.only w g)))
        (λ w g. ⊎_elim (λ v. h.old w (subst (λ l. Has l w) (sym front) v)) (λ e. subst (Has (take m after)) e h.new) (has_push_cases (map row_for ts) (row_for t) w (subst (λ l. Has l w) push g))) in
        let rest : drop m after ≡ drop m before =
        h.rest ∙ ap (drop m) is ∙ drop-append-drop (length (map row_for ts)) before (map row_for ts) m (omega (arith, length-map ts row_for)) refl in (
          new,
          z,
          count,
          sym (take-append-drop m after) ∙ (λ i. same-front i ++ rest i) ∙ ap (λ j. map row_for new ++ drop j before) (count ∙ sym (length-map new row_for)),
          omega (arith, room new z),
        )

    placed : (r : Result ℕ SortedListError) → Inserted compare_rows rows n (row_for t) after r → m ≡ result_unwrap_or r n → Filling s p more before m after
    placed (Err e) i v =
        ⊎_elim
        (λ h. absurd (i.2 (omega (arith, long)) sorted (there h)))
        (λ h. absurd (omega (arith, room (ts ++ (t ∷ [])) (gather_new s p ks k later ts t x y h), length_push ts t, i.1, long)))
        (has_or_not ts t)
    placed (Ok j) i v =
        let h : Holding compare_rows rows n (row_for t) after m = subst (Holding compare_rows rows n (row_for t) after) (sym v) (i.1 sorted) in
        ⊎_elim
        (λ g. let q = h.repeated (there g) in (ts, gather_again s p ks k later ts t x y g, q.0 ∙ size, q.1 ∙ is, omega (arith, q.0)))
        (λ g. behind g h)
        (has_or_not ts t)

  pub fill_more : (o : Option Row) → Filling s p ks before n rows → Picks s p k o → Puts rows n o after m → Filling s p more before m after
  fill_more None (ts, x, size, is, fits) none (e, f) = (ts, gather_none s p ks k later ts x none, e ∙ size, f ∙ is, omega arith)
  fill_more (Some row) (ts, x, size, is, fits) (t, y, w) (r, i, v) =
      placed ts x size is fits t y r (subst (λ z. Inserted compare_rows rows n z after r) w i) v

-- what is gathered of some keys is gathered of all
part : (s : Selection) (p : Bytes) (ks : List Bytes) (n : ℕ) (t : Bytes) → Gathered s p (take n ks) t → Gathered s p ks t
part s p ks n t (j, h, x) = (j, subst (λ z. Has z j) (take-append-drop n ks) (has_append_left (take n ks) (drop n ks) j h), x)

room_part : (s : Selection) (p : Bytes) (ks : List Bytes) (n : ℕ) (rows : List Row) → Spacious (Gathered s p ks) rows → (ts : List Bytes) → Exactly (Gathered s p (take n ks)) ts → length ts ≤ length rows
room_part s p ks n rows (us, y, l) ts x =
    omega (arith, sorted_sub bytes_lawful ts us x.ascends y.ascends (λ t h. y.all t (part s p ks n t (x.each t h))))

module _ (s : Selection) (p : Bytes) (ks : List Bytes) (before : List Row) where
  pub fill-next :
      (n i : ℕ) (k : Bytes) (l m : ℕ) (rows after : List Row) (o : Option Row)
      → i ≡ n + 1
      → ascending ks ≡ true
      → Some k ≡ slice_get ks n
      → Spacious (Gathered s p ks) before
      → Filling s p (take n ks) before l rows
      → Picks s p k o
      → Puts rows l o after m
      → Filling s p (take i ks) before m after
  fill-next n i k l m rows after o h up there room f y q =
      let e : take n ks ++ (k ∷ []) ≡ take i ks = next_keys ks n k up there ∙ ap (λ j. take j ks) (sym h) in
      subst (λ z. Filling s p z before m after) e
      (fill_more s p (take n ks) k (next_later ks n k up there) before rows after l m (λ ts x. room_part s p ks i before room ts (subst (λ z. Exactly (Gathered s p z) ts) e x)) o f y q)

  pub fill_none : (n l : ℕ) → n ≡ 0 → l ≡ 0 → Filling s p (take n ks) before l before
  fill_none n l e f = subst (λ j. Filling s p (take j ks) before l before) (sym e) ([], gather_nothing s p, f, refl, omega arith)

  pub fill_all : (n l : ℕ) (rows : List Row) → None ≡ slice_get ks n → Filling s p (take n ks) before l rows → Filled (Gathered s p ks) before rows
  fill_all n l rows none (ts, x, _, is, _) us y =
      is ∙ ap (λ z. fronted (map row_for z) before) (exactly_unique (Gathered s p ks) us ts y (subst (λ z. Exactly (Gathered s p z) ts) (take_all n ks (no_key ks n none)) x))
