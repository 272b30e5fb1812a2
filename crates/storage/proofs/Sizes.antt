-- How many keys and bytes there are once a value is put.
use Rattle.std.proofs.Common.{◌≡◌, ℕ, ◌+◌, ◌≤◌, Bool, true, false, [], ◌∷◌, length, Some, None, Option, sym, refl, ap, ◌∙◌, arith}
use Rattle.keys.specs.Text.{Bytes}
use Rattle.storage.specs.Contents.{Contents, Entry, same, earlier, found, put, without, keys_of, total, all_after, ascending, Ascending}
use Rattle.storage.proofs.Order.{same_true, eq_same, same_flip, earlier_back}
use Rattle.storage.proofs.Finds.{found_skip, found_here, found_gone, without-drop, without_keep}
use Rattle.storage.proofs.Ascends.{ascending_parts, ascending-without, after_cons, after_trans}
use Rattle.storage.proofs.Places.{put_first, put-over, put_past, found_after, without-after}

none_some : {A : Type 0} {b : Bytes} → ◌≡◌ {A = Option Bytes} None (Some b) → A
none_some e = let z : ◌≡◌ {A = ℕ} 0 1 = cc in absurd (omega arith)

-- the three places of a key against the first entry
data Where (k : Bytes) (e : Entry) : Type 0 where
  at : same k e.key ≡ true → Where k e
  before : same k e.key ≡ false → earlier k e.key ≡ true → Where k e
  behind : same k e.key ≡ false → earlier e.key k ≡ true → Where k e

where_is : (k : Bytes) (e : Entry) → Where k e
where_is k e = go (same k e.key) (earlier k e.key) refl refl
  where
    go : (a b : Bool) → same k e.key ≡ a → earlier k e.key ≡ b → Where k e
    go true b p q = at p
    go false true p q = before p q
    go false false p q = behind p (earlier_back k e.key p q)

-- a new key adds one, and its bytes
pub put_absent : (k v : Bytes) (c : Contents) → Ascending c → found k c ≡ None → (length (put k v c) ≡ length c + 1) × (total (put k v c) ≡ total c + length v)
unfolding put total
put_absent k v [] a n = (refl, omega arith)
put_absent k v (e ∷ es) a n = go (put_absent k v es parts.1) (where_is k e)
  where
    parts : (all_after e.key (keys_of es) ≡ true) × (ascending (keys_of es) ≡ true)
    parts = ascending_parts e.key (keys_of es) a

    go : (found k es ≡ None → (length (put k v es) ≡ length es + 1) × (total (put k v es) ≡ total es + length v)) → Where k e → (length (put k v (e ∷ es)) ≡ length (e ∷ es) + 1) × (total (put k v (e ∷ es)) ≡ total (e ∷ es) + length v)
    go rest (at p) = none_some (sym n ∙ found_here k e es p)
    go rest (before p q) =
        let first = put_first k v (e ∷ es) (after_cons k e.key (keys_of es) q (after_trans k e.key (keys_of es) q parts.0)) in
        (ap length first ∙ omega arith, ap total first ∙ omega arith)
    go rest (behind p q) =
        let ih = rest (sym (found_skip k e es p) ∙ n) in
        let past = put_past k v e es q in
        (ap length past ∙ omega (arith, ih.0), ap total past ∙ omega (arith, ih.1))

-- a stored key stays one, and its bytes take the place of the old ones
pub put_present : (k v : Bytes) (c : Contents) (b : Bytes) → Ascending c → found k c ≡ Some b → (length (put k v c) ≡ length c) × (total (put k v c) + length b ≡ total c + length v)
unfolding put total found
put_present k v [] b a n = none_some n
put_present k v (e ∷ es) b a n = go (put_present k v es b parts.1) (where_is k e)
  where
    parts : (all_after e.key (keys_of es) ≡ true) × (ascending (keys_of es) ≡ true)
    parts = ascending_parts e.key (keys_of es) a

    go : (found k es ≡ Some b → (length (put k v es) ≡ length es) × (total (put k v es) + length b ≡ total es + length v)) → Where k e → (length (put k v (e ∷ es)) ≡ length (e ∷ es)) × (total (put k v (e ∷ es)) + length b ≡ total (e ∷ es) + length v)
    go rest (at p) =
        let over = put-over k v e es (sym (same_true k e.key p)) in
        let old : e.value ≡ b = let h = sym (found_here k e es p) ∙ n in cc in
        (ap length over, omega (arith, ap total over, ap length old))
    go rest (before p q) =
        none_some (sym (found_after k (e ∷ es) (after_cons k e.key (keys_of es) q (after_trans k e.key (keys_of es) q parts.0))) ∙ n)
    go rest (behind p q) =
        let ih = rest (sym (found_skip k e es p) ∙ n) in
        let past = put_past k v e es q in
        (ap length past ∙ omega (arith, ih.0), omega (arith, ap total past, ih.1))

-- the old value need not be there when a new one is put
pub put_again : (k v : Bytes) (c : Contents) → Ascending c → put k v (without (λ j. same j k) c) ≡ put k v c
unfolding without
put_again k v [] a = refl
put_again k v (e ∷ es) a = go (put_again k v es parts.1) (where_is k e)
  where
    parts : (all_after e.key (keys_of es) ≡ true) × (ascending (keys_of es) ≡ true)
    parts = ascending_parts e.key (keys_of es) a

    go : put k v (without (λ j. same j k) es) ≡ put k v es → Where k e → put k v (without (λ j. same j k) (e ∷ es)) ≡ put k v (e ∷ es)
    go ih (at p) =
        let is = same_true k e.key p in
        let behind-k : all_after k (keys_of es) ≡ true = rw is parts.0 in
        ap (put k v) (without-drop (λ j. same j k) e es (same_flip e.key k ∙ p) ∙ without-after k es behind-k)
        ∙ put_first k v es behind-k
        ∙ sym (put-over k v e es (sym is))
    go ih (before p q) =
        ap (put k v) (without-after k (e ∷ es) (after_cons k e.key (keys_of es) q (after_trans k e.key (keys_of es) q parts.0)))
    go ih (behind p q) =
        ap (put k v) (without_keep (λ j. same j k) e es (same_flip e.key k ∙ p))
        ∙ put_past k v e (without (λ j. same j k) es) q
        ∙ ap (λ (c : Contents). e ∷ c) ih
        ∙ sym (put_past k v e es q)

-- what a stored key's removal frees
pub without_present : (k : Bytes) (c : Contents) (b : Bytes) → Ascending c → found k c ≡ Some b → (length (without (λ j. same j k) c) + 1 ≡ length c) × (total (without (λ j. same j k) c) + length b ≡ total c)
without_present k c b a n =
    let out = without (λ j. same j k) c in
    let p = put_absent k [] out (ascending-without (λ j. same j k) c a) (found_gone k (λ j. same j k) c (eq_same k k refl)) in
    let q = put_present k [] c b a n in
    let e = put_again k [] c a in
    (omega (arith, p.0, q.0, ap length e), omega (arith, p.1, q.1, ap total e))

-- a put adds at most one key and its bytes
pub put_most : (k v : Bytes) (c : Contents) → Ascending c → (length (put k v c) ≤ length c + 1) × (total (put k v c) ≤ total c + length v)
put_most k v c a = go (found k c) refl
  where
    go : (o : Option Bytes) → found k c ≡ o → (length (put k v c) ≤ length c + 1) × (total (put k v c) ≤ total c + length v)
    go None n = let h = put_absent k v c a n in (omega (arith, h.0), omega (arith, h.1))
    go (Some b) n = let h = put_present k v c b a n in (omega (arith, h.0), omega (arith, h.1))

-- a stored value is among the bytes of all
pub found_most : (k : Bytes) (c : Contents) (b : Bytes) → Ascending c → found k c ≡ Some b → length b ≤ total c
found_most k c b a n = omega (arith, (without_present k c b a n).1)

-- a move takes no more keys and bytes than there were
pub move_most : (j k : Bytes) (c : Contents) (b : Bytes) → Ascending c → found j c ≡ Some b → (length (put k b (without (λ i. same i j) c)) ≤ length c) × (total (put k b (without (λ i. same i j) c)) ≤ total c)
move_most j k c b a n =
    let w = without_present j c b a n in
    let p = put_most k b (without (λ i. same i j) c) (ascending-without (λ i. same i j) c a) in
    (omega (arith, w.0, p.0), omega (arith, w.1, p.1))
