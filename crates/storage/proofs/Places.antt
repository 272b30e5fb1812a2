-- Contents that are split at a key's place: what is found, put and removed there.
use Rattle.std.proofs.Common.{◌≡◌, ℕ, Bool, true, false, [], ◌∷◌, ◌++◌, Some, None, sym, refl, ap, ◌∙◌, arith}
use Rattle.keys.specs.Text.{Bytes}
use Rattle.storage.specs.Contents.{Contents, Entry, same, earlier, found, put, without, moved, keys_of, all_after, all_before, Gap}
use Rattle.storage.proofs.Order.{same_true, eq_same, same_flip, earlier_apart, earlier_not_back}
use Rattle.storage.proofs.Finds.{found_skip, found_here, found-put-same, moved_some, without-drop, without_keep}
use Rattle.storage.proofs.Ascends.{after_parts, before_parts}

abbrev pub entry : Bytes → Bytes → Entry
entry k v = record { key = k; value = v }

-- a value put before all others, over the first, or past it
pub put_first : (k v : Bytes) (c : Contents) → all_after k (keys_of c) ≡ true → put k v c ≡ entry k v ∷ c
unfolding put
put_first k v [] b = refl
put_first k v (e ∷ es) b = let h = (after_parts k e.key (keys_of es) b).0 in rw (earlier_apart k e.key h, h, put) refl

pub put-over : (k v : Bytes) (e : Entry) (es : Contents) → e.key ≡ k → put k v (e ∷ es) ≡ entry k v ∷ es
unfolding put
put-over k v e es p = rw (eq_same k e.key (sym p), put) refl

pub put_past : (k v : Bytes) (e : Entry) (es : Contents) → earlier e.key k ≡ true → put k v (e ∷ es) ≡ e ∷ put k v es
unfolding put
put_past k v e es p = rw (same_flip k e.key ∙ earlier_apart e.key k p, earlier_not_back e.key k p, put) refl

module _ (k v : Bytes) where
  pub put_gap : (xs ys : Contents) → Gap k (keys_of xs) (keys_of ys) → put k v (xs ++ ys) ≡ xs ++ entry k v ∷ ys
  put_gap [] ys g = put_first k v ys g.above
  put_gap (x ∷ xs) ys g =
      let b = before_parts x.key k (keys_of xs) g.below in
      put_past k v x (xs ++ ys) b.0 ∙ ap (λ (c : Contents). x ∷ c) (put_gap xs ys (record { below = b.1; above = g.above }))

  pub put_at : (xs : Contents) (e : Entry) (ys : Contents) → all_before (keys_of xs) k ≡ true → e.key ≡ k → put k v (xs ++ e ∷ ys) ≡ xs ++ entry k v ∷ ys
  put_at [] e ys b p = put-over k v e ys p
  put_at (x ∷ xs) e ys b p =
      let h = before_parts x.key k (keys_of xs) b in
      put_past k v x (xs ++ e ∷ ys) h.0 ∙ ap (λ (c : Contents). x ∷ c) (put_at xs e ys h.1 p)

module _ (k : Bytes) where
  found_past : (x : Entry) (c : Contents) → earlier x.key k ≡ true → found k (x ∷ c) ≡ found k c
  found_past x c p = found_skip k x c (same_flip k x.key ∙ earlier_apart x.key k p)

  pub found_after : (c : Contents) → all_after k (keys_of c) ≡ true → found k c ≡ None
  unfolding found
  found_after [] p = refl
  found_after (e ∷ es) p =
      let h = after_parts k e.key (keys_of es) p in found_skip k e es (earlier_apart k e.key h.0) ∙ found_after es h.1

  pub found_gap : (xs ys : Contents) → Gap k (keys_of xs) (keys_of ys) → found k (xs ++ ys) ≡ None
  found_gap [] ys g = found_after ys g.above
  found_gap (x ∷ xs) ys g =
      let b = before_parts x.key k (keys_of xs) g.below in
      found_past x (xs ++ ys) b.0 ∙ found_gap xs ys (record { below = b.1; above = g.above })

  pub found_at : (xs : Contents) (e : Entry) (ys : Contents) → all_before (keys_of xs) k ≡ true → e.key ≡ k → found k (xs ++ e ∷ ys) ≡ Some e.value
  found_at [] e ys b p = found_here k e ys (eq_same k e.key (sym p))
  found_at (x ∷ xs) e ys b p =
      let h = before_parts x.key k (keys_of xs) b in found_past x (xs ++ e ∷ ys) h.0 ∙ found_at xs e ys h.1 p

  pub without-after : (c : Contents) → all_after k (keys_of c) ≡ true → without (λ j. same j k) c ≡ c
  unfolding without
  without-after [] p = refl
  without-after (e ∷ es) p =
      let h = after_parts k e.key (keys_of es) p in
      without_keep (λ j. same j k) e es (same_flip e.key k ∙ earlier_apart k e.key h.0) ∙ ap (λ (c : Contents). e ∷ c) (without-after es h.1)

  pub without_gap : (xs ys : Contents) → Gap k (keys_of xs) (keys_of ys) → without (λ j. same j k) (xs ++ ys) ≡ xs ++ ys
  without_gap [] ys g = without-after ys g.above
  without_gap (x ∷ xs) ys g =
      let b = before_parts x.key k (keys_of xs) g.below in
      without_keep (λ j. same j k) x (xs ++ ys) (earlier_apart x.key k b.0)
      ∙ ap (λ (c : Contents). x ∷ c) (without_gap xs ys (record { below = b.1; above = g.above }))

  pub without_at : (xs : Contents) (e : Entry) (ys : Contents) → Gap k (keys_of xs) (keys_of ys) → e.key ≡ k → without (λ j. same j k) (xs ++ e ∷ ys) ≡ xs ++ ys
  without_at [] e ys g p = without-drop (λ j. same j k) e ys (eq_same e.key k p) ∙ without-after ys g.above
  without_at (x ∷ xs) e ys g p =
      let b = before_parts x.key k (keys_of xs) g.below in
      without_keep (λ j. same j k) x (xs ++ e ∷ ys) (earlier_apart x.key k b.0)
      ∙ ap (λ (c : Contents). x ∷ c) (without_at xs e ys (record { below = b.1; above = g.above }) p)

-- what a removal takes need not be put
pub without-put_off : (t : Bytes → Bool) (k : Bytes) (v : Bytes) (c : Contents) → t k ≡ true → without t (put k v c) ≡ without t c
unfolding put
without-put_off t k v [] n = without-drop t (entry k v) [] n
without-put_off t k v (e ∷ es) n = go (without-put_off t k v es n) (same k e.key) (earlier k e.key) (t e.key) refl refl
  where
    go : without t (put k v es) ≡ without t es → (d f g : Bool) → same k e.key ≡ d → t e.key ≡ g → without t (elim d [ true ↦ entry k v ∷ es | false ↦ elim f [ true ↦ entry k v ∷ (e ∷ es) | false ↦ e ∷ put k v es ] ]) ≡ without t (e ∷ es)
    go ih true f g p w = without-drop t (entry k v) es n ∙ sym (without-drop t e es (ap t (sym (same_true k e.key p)) ∙ n))
    go ih false true g p w = without-drop t (entry k v) (e ∷ es) n
    go ih false false true p w = without-drop t e (put k v es) w ∙ ih ∙ sym (without-drop t e es w)
    go ih false false false p w = without_keep t e (put k v es) w ∙ ap (λ (r : Contents). e ∷ r) ih ∙ sym (without_keep t e es w)

-- an absent key's removal takes nothing
pub without_absent : (k : Bytes) (c : Contents) → found k c ≡ None → without (λ j. same j k) c ≡ c
unfolding without
without_absent k [] n = refl
without_absent k (e ∷ es) n = go (without_absent k es) (same k e.key) refl
  where
    go : (found k es ≡ None → without (λ j. same j k) es ≡ es) → (b : Bool) → same k e.key ≡ b → without (λ j. same j k) (e ∷ es) ≡ e ∷ es
    go ih true p = let h = sym n ∙ found_here k e es p in let z : ◌≡◌ {A = ℕ} 0 1 = cc in absurd (omega arith)
    go ih false p =
        without_keep (λ j. same j k) e es (same_flip e.key k ∙ p)
        ∙ ap (λ (c : Contents). e ∷ c) (ih (sym (found_skip k e es p) ∙ n))

-- a value put under a key that was absent, and moved on, is put under the other key
pub moved-put : (a b v : Bytes) (c : Contents) → found a c ≡ None → moved a b (put a v c) ≡ put b v c
moved-put a b v c n =
    moved_some a b v (put a v c) (found-put-same a v c)
    ∙ ap (put b v) (without-put_off (λ j. same j a) a v c (eq_same a a refl) ∙ without_absent a c n)
