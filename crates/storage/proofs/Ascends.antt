-- Ascending keys: where they split, and what keeps them ascending.
use Rattle.std.proofs.Common.{◌≡◌, Bool, true, false, List, [], ◌∷◌, ◌++◌, refl}
use Rattle.std.proofs.lemmas.Bool.{and_parts, and_from}
use Rattle.keys.specs.Text.{Bytes}
use Rattle.storage.specs.Contents.{Contents, earlier, without, keys_of, all_after, all_before, ascending, Ascending, Gap}
use Rattle.storage.proofs.Order.{earlier_trans}

pub after_cons : (k j : Bytes) (js : List Bytes) → earlier k j ≡ true → all_after k js ≡ true → all_after k (j ∷ js) ≡ true
unfolding all_after
after_cons k j js p q = and_from (earlier k j) (all_after k js) p q

pub after_parts : (k j : Bytes) (js : List Bytes) → all_after k (j ∷ js) ≡ true → (earlier k j ≡ true) × (all_after k js ≡ true)
unfolding all_after
after_parts k j js p = and_parts (earlier k j) (all_after k js) p

pub before_cons : (j k : Bytes) (js : List Bytes) → earlier j k ≡ true → all_before js k ≡ true → all_before (j ∷ js) k ≡ true
unfolding all_before
before_cons j k js p q = and_from (earlier j k) (all_before js k) p q

pub before_parts : (j k : Bytes) (js : List Bytes) → all_before (j ∷ js) k ≡ true → (earlier j k ≡ true) × (all_before js k ≡ true)
unfolding all_before
before_parts j k js p = and_parts (earlier j k) (all_before js k) p

pub ascending_cons : (k : Bytes) (ks : List Bytes) → all_after k ks ≡ true → ascending ks ≡ true → ascending (k ∷ ks) ≡ true
unfolding ascending
ascending_cons k ks p q = and_from (all_after k ks) (ascending ks) p q

pub ascending_parts : (k : Bytes) (ks : List Bytes) → ascending (k ∷ ks) ≡ true → (all_after k ks ≡ true) × (ascending ks ≡ true)
unfolding ascending
ascending_parts k ks p = and_parts (all_after k ks) (ascending ks) p

-- what comes before a key comes before all behind that key
pub after_trans : (j k : Bytes) (ks : List Bytes) → earlier j k ≡ true → all_after k ks ≡ true → all_after j ks ≡ true
unfolding all_after
after_trans j k [] p q = refl
after_trans j k (i ∷ is) p q =
    let h = after_parts k i is q in after_cons j i is (earlier_trans j k i p h.0) (after_trans j k is p h.1)

-- what comes before a key that comes before another comes before that
pub before_trans : (js : List Bytes) (j k : Bytes) → earlier j k ≡ true → all_before js j ≡ true → all_before js k ≡ true
unfolding all_before
before_trans [] j k p q = refl
before_trans (i ∷ is) j k p q =
    let h = before_parts i j is q in before_cons i k is (earlier_trans i j k h.0 p) (before_trans is j k p h.1)

pub before_append : (js ks : List Bytes) (k : Bytes) → all_before js k ≡ true → all_before ks k ≡ true → all_before (js ++ ks) k ≡ true
before_append [] ks k p q = q
before_append (j ∷ js) ks k p q = let h = before_parts j k js p in before_cons j k (js ++ ks) h.0 (before_append js ks k h.1 q)

pub after-append : (k : Bytes) (js ks : List Bytes) → all_after k js ≡ true → all_after k ks ≡ true → all_after k (js ++ ks) ≡ true
after-append k [] ks p q = q
after-append k (j ∷ js) ks p q = let h = after_parts k j js p in after_cons k j (js ++ ks) h.0 (after-append k js ks h.1 q)

pub after_front : (k : Bytes) (js ks : List Bytes) → all_after k (js ++ ks) ≡ true → all_after k js ≡ true
unfolding all_after
after_front k [] ks p = refl
after_front k (j ∷ js) ks p = let h = after_parts k j (js ++ ks) p in after_cons k j js h.0 (after_front k js ks h.1)

pub after_back : (k : Bytes) (js ks : List Bytes) → all_after k (js ++ ks) ≡ true → all_after k ks ≡ true
after_back k [] ks p = p
after_back k (j ∷ js) ks p = after_back k js ks (after_parts k j (js ++ ks) p).1

-- ascending keys split at one of them
pub ascending_split : (js : List Bytes) (k : Bytes) (ks : List Bytes) → ascending (js ++ k ∷ ks) ≡ true → Gap k js ks
unfolding all_before
ascending_split [] k ks p = record { below = refl; above = (ascending_parts k ks p).0 }
ascending_split (j ∷ js) k ks p =
    let h = ascending_parts j (js ++ k ∷ ks) p in
    let r = ascending_split js k ks h.1 in
    let q = after_parts j k ks (after_back j js (k ∷ ks) h.0) in
    record { below = before_cons j k js q.0 r.below; above = r.above }

pub ascending_removed : (js : List Bytes) (k : Bytes) (ks : List Bytes) → ascending (js ++ k ∷ ks) ≡ true → ascending (js ++ ks) ≡ true
ascending_removed [] k ks p = (ascending_parts k ks p).1
ascending_removed (j ∷ js) k ks p =
    let h = ascending_parts j (js ++ k ∷ ks) p in
    let q = after_back j js (k ∷ ks) h.0 in
    ascending_cons j (js ++ ks) (after-append j js ks (after_front j js (k ∷ ks) h.0) (after_parts j k ks q).1) (ascending_removed js k ks h.1)

pub ascending_inserted : (js : List Bytes) (k : Bytes) (ks : List Bytes) → ascending (js ++ ks) ≡ true → Gap k js ks → ascending (js ++ k ∷ ks) ≡ true
ascending_inserted [] k ks p g = ascending_cons k ks g.above p
ascending_inserted (j ∷ js) k ks p g =
    let h = ascending_parts j (js ++ ks) p in
    let b = before_parts j k js g.below in
    ascending_cons j (js ++ k ∷ ks)
    (after-append j js (k ∷ ks) (after_front j js ks h.0) (after_cons j k ks b.0 (after_trans j k ks b.0 g.above)))
    (ascending_inserted js k ks h.1 (record { below = b.1; above = g.above }))

-- removals and puts keep the order

pub after-without : (j : Bytes) (t : Bytes → Bool) (c : Contents) → all_after j (keys_of c) ≡ true → all_after j (keys_of (without t c)) ≡ true
unfolding without
after-without j t [] b = b
after-without j t (e ∷ es) b = go (after-without j t es h.1) (t e.key)
  where
    h : (earlier j e.key ≡ true) × (all_after j (keys_of es) ≡ true)
    h = after_parts j e.key (keys_of es) b

    go : all_after j (keys_of (without t es)) ≡ true → (d : Bool) → all_after j (keys_of (elim d [ true ↦ without t es | false ↦ e ∷ without t es ])) ≡ true
    go ih true = ih
    go ih false = after_cons j e.key (keys_of (without t es)) h.0 ih

pub ascending-without : (t : Bytes → Bool) (c : Contents) → Ascending c → Ascending (without t c)
unfolding without
ascending-without t [] a = a
ascending-without t (e ∷ es) a = go (ascending-without t es h.1) (t e.key)
  where
    h : (all_after e.key (keys_of es) ≡ true) × (ascending (keys_of es) ≡ true)
    h = ascending_parts e.key (keys_of es) a

    go : Ascending (without t es) → (d : Bool) → Ascending (elim d [ true ↦ without t es | false ↦ e ∷ without t es ])
    go ih true = ih
    go ih false = ascending_cons e.key (keys_of (without t es)) (after-without e.key t es h.0) ih
