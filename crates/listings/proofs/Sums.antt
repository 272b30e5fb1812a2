-- The bytes of the values under a prefix, added up key by key.
use Rattle.std.proofs.Common.{◌≡◌, ℕ, ◌+◌, ◌<◌, ◌≤◌, Bool, true, false, cond, not, [], ◌∷◌, ◌++◌, length, get_or, take, drop, Some, None, sum_by, filter, Option, sym, refl, ap, ◌∙◌, arith}
use Rattle.std.specs.List.{slice_get}
use Rattle.std.proofs.lemmas.List.Elements.{filter_more}
use Rattle.std.proofs.lemmas.List.Filters.{sum_by-filter_both}
use Rattle.std.proofs.lemmas.List.{drop_more, get_or-map, length-map, take_all, take-append-drop, map-append}
use Rattle.std.proofs.lemmas.List.Sums.{sum_by-cons, sum_by-append, sum_by-take-le}
use Rattle.keys.specs.Text.{Bytes}
use Rattle.storage.specs.Contents.{Contents, Entry, found, keys_of, under, total, all_before, ascending, Ascending, bytes_of}
use Rattle.storage.proofs.Ascends.{ascending_split}
use Rattle.storage.proofs.Order.{eq_same}
use Rattle.storage.proofs.Places.{found_at}
use Rattle.listings.specs.Listings.{size_under}
use Rattle.listings.proofs.Gathers.{key_there, no_key}

abbrev size : Entry → ℕ
size e = length e.value

total-sum : (c : Contents) → total c ≡ sum_by size c
unfolding total
total-sum [] = refl
total-sum (e ∷ es) = ap (λ n. size e + n) (total-sum es) ∙ sym (sum_by-cons size e es)

total_both : (c d : Contents) → total (c ++ d) ≡ total c + total d
total_both c d = total-sum (c ++ d) ∙ sum_by-append size c d ∙ (λ i. sym (total-sum c) i + sym (total-sum d) i)

-- every key begins with the root prefix
pub size_root : (c : Contents) → size_under [] c ≡ total c
unfolding under
size_root c = ap total (all_kept c)
  where
    all_kept : (c : Contents) → filter (λ e. under [] e.key) c ≡ c
    all_kept [] = refl
    all_kept (e ∷ es) = rw (eq_same [] [] refl) (ap (λ (z : Contents). e ∷ z) (all_kept es))

module _ (p : Bytes) (c : Contents) where
  abbrev test : Entry → Bool
  test e = under p e.key

  -- a part of the sum is below the whole
  pub part_small : (n : ℕ) → total (filter test (take n c)) ≤ total c
  part_small n =
      omega (
        arith,
        total-sum (filter test (take n c)),
        sum_by-filter_both test (λ e. not (test e)) (λ _. refl) size (take n c),
        sum_by-take-le size c n,
        total-sum c,
      )

  pub sum_none : (n : ℕ) → n ≡ 0 → 0 ≡ total (filter test (take n c))
  unfolding total
  sum_none n e = rw e refl

  pub sum_all : (n : ℕ) → None ≡ slice_get (keys_of c) n → total (filter test (take n c)) ≡ size_under p c
  sum_all n none = ap (λ (z : Contents). total (filter test z)) (take_all n c (omega (arith, no_key (keys_of c) n none, length-map c (λ e. e.key))))

  -- the key at n, and its value
  module _ (ascends : Ascending c) (n : ℕ) (k : Bytes) (there : Some k ≡ slice_get (keys_of c) n) where
    abbrev entry : Entry
    entry = get_or c n (record { key = k; value = [] })

    pub within : n < length c
    within = omega (arith, (key_there (keys_of c) n k there).0, length-map c (λ e. e.key))

    named : entry.key ≡ k
    named = sym (get_or-map (λ e. e.key) c n (record { key = k; value = [] }) k within) ∙ (key_there (keys_of c) n k there).1

    split : c ≡ take n c ++ (entry ∷ drop (n + 1) c)
    split = sym (take-append-drop n c) ∙ ap (λ (z : Contents). take n c ++ z) (drop_more c n (record { key = k; value = [] }) within)

    below : all_before (keys_of (take n c)) k ≡ true
    below =
        let e : keys_of c ≡ keys_of (take n c) ++ (k ∷ keys_of (drop (n + 1) c)) = ap keys_of split ∙ map-append (λ e. e.key) (take n c) (entry ∷ drop (n + 1) c) ∙ ap (λ z. keys_of (take n c) ++ (z ∷ keys_of (drop (n + 1) c))) named in
        (ascending_split (keys_of (take n c)) k (keys_of (drop (n + 1) c)) (ap ascending (sym e) ∙ ascends)).below

    value : found k c ≡ Some entry.value
    value = ap (found k) split ∙ found_at k (take n c) entry (drop (n + 1) c) below named

    next : (b : Bool) → under p k ≡ b → total (filter test (take (n + 1) c)) ≡ total (filter test (take n c)) + total (cond b (entry ∷ []) [])
    next b e =
        ap total (filter_more test c n (record { key = k; value = [] }) within)
        ∙ total_both (filter test (take n c)) (cond (test entry) (entry ∷ []) [])
        ∙ ap (λ t. total (filter test (take n c)) + total (cond t (entry ∷ []) [])) (ap (under p) named ∙ e)

    pub sum_more : (m v : ℕ) → m ≡ n + 1 → under p k ≡ true → v ≡ length (bytes_of (found k c)) → total (filter test (take n c)) + v ≡ total (filter test (take m c))
    unfolding total
    sum_more m v h u e =
        let len : v ≡ length entry.value = e ∙ ap (λ (o : Option Bytes). length (bytes_of o)) value in
        rw h (omega (arith, next true u))

    pub sum_same : (m : ℕ) → m ≡ n + 1 → under p k ≡ false → total (filter test (take n c)) ≡ total (filter test (take m c))
    unfolding total
    sum_same m h u = rw h (omega (arith, next false u))
