-- The contents under a prefix: what a write does there, and which writes leave them alone.
use Rattle.std.proofs.Common.{◌≡◌, ℕ, ◌≤◌, Bool, true, false, not, ◌||◌, ◌⊎◌, [], ◌∷◌, ◌++◌, length, take, sym, refl, ap, ◌∙◌, subst, inl, inr, append_assoc, arith}
use Rattle.std.proofs.lemmas.List.{take-take}
use Rattle.std.proofs.lemmas.Bool.{not-true, not_from_true, not_from_false, or_left, or_right, cases_lt}
use Rattle.keys.specs.Text.{Bytes}
use Rattle.keys.specs.Texts.{nil_holds}
use Rattle.storage.specs.Contents.{Contents, same, earlier, under, found, put, without, keys_of, all_after, ascending, Ascending}
use Rattle.storage.proofs.Order.{clash, same_true, eq_same, earlier_back}
use Rattle.storage.proofs.Finds.{found_kept, without-same, without_none, without-drop, without_keep, without_both}
use Rattle.storage.proofs.Ascends.{after_parts, after_cons, after_trans, after-without, ascending_parts, ascending_cons}
use Rattle.storage.proofs.Places.{entry, put_first, put-over, put_past, without-put_off}
use Rattle.storage.proofs.Prefixes.{begins_from_under, under_from_begins}
use Rattle.runs.specs.Labels.{within}

-- a put keeps the order

after-put : (j k v : Bytes) (c : Contents) → earlier j k ≡ true → all_after j (keys_of c) ≡ true → all_after j (keys_of (put k v c)) ≡ true
unfolding put
after-put j k v [] p b = after_cons j k [] p b
after-put j k v (e ∷ es) p b = go (after-put j k v es p h.1) (same k e.key) (earlier k e.key)
  where
    h : (earlier j e.key ≡ true) × (all_after j (keys_of es) ≡ true)
    h = after_parts j e.key (keys_of es) b

    go : all_after j (keys_of (put k v es)) ≡ true → (d f : Bool) → all_after j (keys_of (elim d [ true ↦ entry k v ∷ es | false ↦ elim f [ true ↦ entry k v ∷ (e ∷ es) | false ↦ e ∷ put k v es ] ])) ≡ true
    go ih true f = after_cons j k (keys_of es) p h.1
    go ih false true = after_cons j k (keys_of (e ∷ es)) p b
    go ih false false = after_cons j e.key (keys_of (put k v es)) h.0 ih

pub ascending-put : (k v : Bytes) (c : Contents) → Ascending c → Ascending (put k v c)
unfolding put ascending all_after
ascending-put k v [] a = ascending_cons k [] a a
ascending-put k v (e ∷ es) a = go (ascending-put k v es h.1) (same k e.key) (earlier k e.key) refl refl
  where
    h : (all_after e.key (keys_of es) ≡ true) × (ascending (keys_of es) ≡ true)
    h = ascending_parts e.key (keys_of es) a

    go : Ascending (put k v es) → (d f : Bool) → same k e.key ≡ d → earlier k e.key ≡ f → Ascending (elim d [ true ↦ entry k v ∷ es | false ↦ elim f [ true ↦ entry k v ∷ (e ∷ es) | false ↦ e ∷ put k v es ] ])
    go ih true f p q = ascending_cons k (keys_of es) (subst (λ (x : Bytes). all_after x (keys_of es) ≡ true) (sym (same_true k e.key p)) h.0) h.1
    go ih false true p q = ascending_cons k (keys_of (e ∷ es)) (after_cons k e.key (keys_of es) q (after_trans k e.key (keys_of es) q h.0)) a
    go ih false false p q = ascending_cons e.key (keys_of (put k v es)) (after-put e.key k v es (earlier_back k e.key p q) h.0) ih

-- what a removal leaves alone may be put before it or after
pub without-put : (t : Bytes → Bool) (k v : Bytes) (c : Contents) → Ascending c → t k ≡ false → without t (put k v c) ≡ put k v (without t c)
unfolding put without
without-put t k v [] a n = without_keep t (entry k v) [] n
without-put t k v (e ∷ es) a n = go (without-put t k v es h.1 n) (same k e.key) (earlier k e.key) (t e.key) refl refl refl
  where
    h : (all_after e.key (keys_of es) ≡ true) × (ascending (keys_of es) ≡ true)
    h = ascending_parts e.key (keys_of es) a

    first : earlier k e.key ≡ true → all_after k (keys_of (e ∷ es)) ≡ true
    first q = after_cons k e.key (keys_of es) q (after_trans k e.key (keys_of es) q h.0)

    go : without t (put k v es) ≡ put k v (without t es) → (d f g : Bool) → same k e.key ≡ d → earlier k e.key ≡ f → t e.key ≡ g → without t (elim d [ true ↦ entry k v ∷ es | false ↦ elim f [ true ↦ entry k v ∷ (e ∷ es) | false ↦ e ∷ put k v es ] ]) ≡ put k v (without t (e ∷ es))
    go ih true f true p q w = clash (t k) (ap t (same_true k e.key p) ∙ w) n
    go ih true f false p q w =
        without_keep t (entry k v) es n
        ∙ sym (put-over k v e (without t es) (sym (same_true k e.key p)))
        ∙ ap (put k v) (sym (without_keep t e es w))
    go ih false true g p q w =
        without_keep t (entry k v) (e ∷ es) n ∙ sym (put_first k v (without t (e ∷ es)) (after-without k t (e ∷ es) (first q)))
    go ih false false true p q w = without-drop t e (put k v es) w ∙ ih ∙ ap (put k v) (sym (without-drop t e es w))
    go ih false false false p q w =
        without_keep t e (put k v es) w
        ∙ ap (λ (r : Contents). e ∷ r) ih
        ∙ sym (put_past k v e (without t es) (earlier_back k e.key p q))
        ∙ ap (put k v) (sym (without_keep t e es w))

or_comm : (a b : Bool) → (a || b) ≡ (b || a)
or_comm true true = refl
or_comm true false = refl
or_comm false true = refl
or_comm false false = refl

-- a removal of what another takes too
without_more : (t u : Bytes → Bool) (c : Contents) → ((k : Bytes) → t k ≡ true → u k ≡ true) → without u (without t c) ≡ without u c
without_more t u c h = without_both t u c ∙ without-same _ _ (λ k. go (t k) (u k) (h k)) c
  where
    go : (a b : Bool) → (a ≡ true → b ≡ true) → (a || b) ≡ b
    go true b h = sym (h refl)
    go false b h = refl

pub under_trans : (p q k : Bytes) → under p q ≡ true → under q k ≡ true → under p k ≡ true
under_trans p q k u w =
    let a = begins_from_under p q u in
    let b = begins_from_under q k w in
    under_from_begins p k (a.0 ++ b.0, b.1 ∙ ap (λ (x : Bytes). x ++ b.0) a.1 ∙ append_assoc p a.0 b.0)

-- two prefixes of one key: the longer begins with the shorter
begins_shorter : (p q k : Bytes) → under p k ≡ true → under q k ≡ true → length p ≤ length q → under p q ≡ true
unfolding under
begins_shorter p q k u w l =
    let a = same_true (take (length p) k) p u in
    let b = same_true (take (length q) k) q w in
    eq_same (take (length p) q) p (ap (take (length p)) (sym b) ∙ take-take (length p) (length q) k l ∙ a)

pub under_either : (p q k : Bytes) → under p k ≡ true → under q k ≡ true → (under p q || under q p) ≡ true
under_either p q k u w =
    elim (cases_le (length p) (length q)) [
      | inl l ↦ or_left (under p q) (under q p) (begins_shorter p q k u w l)
      | inr l ↦ or_right (under p q) (under q p) (begins_shorter q p k w u l)
    ]
  where
    cases_le : (a b : ℕ) → (a ≤ b) ⊎ (b ≤ a)
    cases_le a b = elim (cases_lt a b) [ inl l ↦ inl (omega arith) | inr l ↦ inr l ]

module _ (p : Bytes) where
  abbrev out : Bytes → Bool
  out k = not (under p k)

  pub within-put : (k v : Bytes) (c : Contents) → Ascending c → under p k ≡ true → within p (put k v c) ≡ put k v (within p c)
  unfolding within
  within-put k v c a u = without-put out k v c a (not_from_true (under p k) u)

  pub within-put_off : (k v : Bytes) (c : Contents) → under p k ≡ false → within p (put k v c) ≡ within p c
  unfolding within
  within-put_off k v c u = without-put_off out k v c (not_from_false (under p k) u)

  pub within-without : (t : Bytes → Bool) (c : Contents) → within p (without t c) ≡ without t (within p c)
  unfolding within
  within-without t c = without_both t out c ∙ without-same _ _ (λ k. or_comm (t k) (out k)) c ∙ sym (without_both out t c)

  pub within-without_off : (t : Bytes → Bool) (c : Contents) → ((k : Bytes) → t k ≡ true → under p k ≡ false) → within p (without t c) ≡ within p c
  unfolding within
  within-without_off t c h = without_more t out c (λ k u. not_from_false (under p k) (h k u))

  pub found_within : (k : Bytes) (c : Contents) → under p k ≡ true → found k (within p c) ≡ found k c
  unfolding within
  found_within k c u = found_kept k out c (not_from_true (under p k) u)

  -- what lies under a prefix that begins with p lies under p
  pub within-within : (q : Bytes) (c : Contents) → under p q ≡ true → within q (within p c) ≡ within q c
  unfolding within
  within-within q c u = without_more out (λ k. not (under q k)) c (λ k h. go k (under q k) refl (not-true (under p k) h))
    where
      go : (k : Bytes) (b : Bool) → under q k ≡ b → under p k ≡ false → not b ≡ true
      go k true w n = clash (under p k) (under_trans p q k u w) n
      go k false w n = refl

-- everything begins with root
pub under_root : (k : Bytes) → under [] k ≡ true
under_root k = under_from_begins [] k (k, refl)

pub within_root : (c : Contents) → within [] c ≡ c
unfolding within
within_root c = without_none (λ k. not (under [] k)) (λ k. not_from_true (under [] k) (under_root k)) c

-- only root is a beginning of root
pub root_only : (p : Bytes) → under p [] ≡ true → p ≡ []
root_only p u = go p (begins_from_under p [] u).0 (begins_from_under p [] u).1
  where
    go : (p rest : Bytes) → [] ≡ p ++ rest → p ≡ []
    go [] rest e = refl
    go (b ∷ t) rest e = absurd (nil_holds [] b (t ++ rest) e)
