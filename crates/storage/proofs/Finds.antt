-- What is found after a value is put, removed or moved.
use Rattle.std.proofs.Common.{◌≡◌, Bool, true, false, cond, ◌||◌, [], ◌∷◌, Some, None, Option, sym, refl, ap, ◌∙◌}
use Rattle.keys.specs.Text.{Bytes}
use Rattle.storage.specs.Contents.{Contents, Entry, same, earlier, found, put, without, moved}
use Rattle.storage.proofs.Order.{clash, same_true, eq_same, ne_same}

-- an entry at the head, tested

pub found_skip : (k : Bytes) (e : Entry) (es : Contents) → same k e.key ≡ false → found k (e ∷ es) ≡ found k es
unfolding found
found_skip k e es q = rw (q, found) refl

pub found_here : (k : Bytes) (e : Entry) (es : Contents) → same k e.key ≡ true → found k (e ∷ es) ≡ Some e.value
unfolding found
found_here k e es q = rw (q, found) refl

pub found_head : (k : Bytes) (e : Entry) (es fs : Contents) → found k es ≡ found k fs → found k (e ∷ es) ≡ found k (e ∷ fs)
unfolding found
found_head k e es fs q = go (same k e.key)
  where
    go : (b : Bool) → ◌≡◌ {A = Option Bytes} (elim b [ true ↦ Some e.value | false ↦ found k es ]) (elim b [ true ↦ Some e.value | false ↦ found k fs ])
    go true = refl
    go false = q

pub found-without : (k : Bytes) (t : Bytes → Bool) (c : Contents) → found k (without t c) ≡ cond (t k) None (found k c)
unfolding found without
found-without k t [] = go (t k)
  where
    go : (b : Bool) → ◌≡◌ {A = Option Bytes} None (cond b None None)
    go true = refl
    go false = refl
found-without k t (e ∷ es) = go (found-without k t es) (t e.key) (same k e.key) refl refl
  where
    go : found k (without t es) ≡ cond (t k) None (found k es) → (b d : Bool) → t e.key ≡ b → same k e.key ≡ d → found k (elim b [ true ↦ without t es | false ↦ e ∷ without t es ]) ≡ cond (t k) None (found k (e ∷ es))
    go ih true true q w = let r : t k ≡ true = ap t (same_true k e.key w) ∙ q in ih ∙ rw r refl
    go ih true false q w = ih ∙ ap (λ (o : Option Bytes). cond (t k) None o) (sym (found_skip k e es w))
    go ih false true q w = let r : t k ≡ false = ap t (same_true k e.key w) ∙ q in found_here k e (without t es) w ∙ sym (found_here k e es w) ∙ rw r refl
    go ih false false q w = found_skip k e (without t es) w ∙ ih ∙ ap (λ (o : Option Bytes). cond (t k) None o) (sym (found_skip k e es w))

pub found_gone : (k : Bytes) (t : Bytes → Bool) (c : Contents) → t k ≡ true → found k (without t c) ≡ None
found_gone k t c q = found-without k t c ∙ rw q refl

pub found_kept : (k : Bytes) (t : Bytes → Bool) (c : Contents) → t k ≡ false → found k (without t c) ≡ found k c
found_kept k t c q = found-without k t c ∙ rw q refl

pub found-put-same : (k : Bytes) (v : Bytes) (c : Contents) → found k (put k v c) ≡ Some v
unfolding put
found-put-same k v [] = found_here k (record { key = k; value = v }) [] (eq_same k k refl)
found-put-same k v (e ∷ es) = go (found-put-same k v es) (same k e.key) (earlier k e.key) refl
  where
    new : Entry
    new = record { key = k; value = v }

    go : found k (put k v es) ≡ Some v → (b d : Bool) → same k e.key ≡ b → found k (elim b [ true ↦ new ∷ es | false ↦ elim d [ true ↦ new ∷ (e ∷ es) | false ↦ e ∷ put k v es ] ]) ≡ Some v
    go ih true d q = found_here k new es (eq_same k k refl)
    go ih false true q = found_here k new (e ∷ es) (eq_same k k refl)
    go ih false false q = found_skip k e (put k v es) q ∙ ih

pub found-put_other : (j k : Bytes) (v : Bytes) (c : Contents) → (j ≡ k → ⊥) → found j (put k v c) ≡ found j c
unfolding put
found-put_other j k v [] ne = found_skip j (record { key = k; value = v }) [] (ne_same j k ne)
found-put_other j k v (e ∷ es) ne = go (found-put_other j k v es ne) (same k e.key) (earlier k e.key) refl
  where
    new : Entry
    new = record { key = k; value = v }

    go : found j (put k v es) ≡ found j es → (b d : Bool) → same k e.key ≡ b → found j (elim b [ true ↦ new ∷ es | false ↦ elim d [ true ↦ new ∷ (e ∷ es) | false ↦ e ∷ put k v es ] ]) ≡ found j (e ∷ es)
    go ih true d q = found_skip j new es (ne_same j k ne) ∙ sym (found_skip j e es (ne_same j e.key (λ w. ne (w ∙ sym (same_true k e.key q)))))
    go ih false true q = found_skip j new (e ∷ es) (ne_same j k ne)
    go ih false false q = found_head j e (put k v es) es ih

-- a value that is there, moved
pub moved_some : (a b : Bytes) (v : Bytes) (c : Contents) → found a c ≡ Some v → moved a b c ≡ put b v (without (λ k. same k a) c)
unfolding moved
moved_some a b v c q = rw (q, moved) refl

-- removals

pub without-same : (t u : Bytes → Bool) → ((k : Bytes) → t k ≡ u k) → (c : Contents) → without t c ≡ without u c
unfolding without
without-same t u h [] = refl
without-same t u h (e ∷ es) = go (without-same t u h es) (t e.key) (u e.key) (h e.key)
  where
    go : without t es ≡ without u es → (b d : Bool) → b ≡ d → ◌≡◌ {A = Contents} (elim b [ true ↦ without t es | false ↦ e ∷ without t es ]) (elim d [ true ↦ without u es | false ↦ e ∷ without u es ])
    go ih true true q = ih
    go ih true false q = clash true refl q
    go ih false true q = clash true refl (sym q)
    go ih false false q = ap (λ (r : Contents). e ∷ r) ih

pub without_none : (t : Bytes → Bool) → ((k : Bytes) → t k ≡ false) → (c : Contents) → without t c ≡ c
unfolding without
without_none t h [] = refl
without_none t h (e ∷ es) = rw (h e.key, without) (ap (λ (r : Contents). e ∷ r) (without_none t h es))

pub without-drop : (t : Bytes → Bool) (e : Entry) (es : Contents) → t e.key ≡ true → without t (e ∷ es) ≡ without t es
unfolding without
without-drop t e es q = rw (q, without) refl

pub without_keep : (t : Bytes → Bool) (e : Entry) (es : Contents) → t e.key ≡ false → without t (e ∷ es) ≡ e ∷ without t es
unfolding without
without_keep t e es q = rw (q, without) refl

-- one removal after another
pub without_both : (t u : Bytes → Bool) (c : Contents) → without u (without t c) ≡ without (λ k. t k || u k) c
unfolding without
without_both t u [] = refl
without_both t u (e ∷ es) = go (without_both t u es) (t e.key) (u e.key) refl refl
  where
    go : without u (without t es) ≡ without (λ k. t k || u k) es → (b d : Bool) → t e.key ≡ b → u e.key ≡ d → without u (elim b [ true ↦ without t es | false ↦ e ∷ without t es ]) ≡ elim (b || u e.key) [ true ↦ without (λ k. t k || u k) es | false ↦ e ∷ without (λ k. t k || u k) es ]
    go ih true d q w = ih
    go ih false true q w = without-drop u e (without t es) w ∙ ih ∙ rw w refl
    go ih false false q w = without_keep u e (without t es) w ∙ ap (λ (r : Contents). e ∷ r) ih ∙ rw w refl

-- what is removed with others need not be removed first
pub without_first : (t : Bytes → Bool) (k : Bytes) (c : Contents) → t k ≡ true → without t (without (λ j. same j k) c) ≡ without t c
without_first t k c q = without_both (λ j. same j k) t c ∙ without-same (λ j. same j k || t j) t each c
  where
    each : (j : Bytes) → (same j k || t j) ≡ t j
    each j = go (same j k) refl
      where
        go : (b : Bool) → same j k ≡ b → (b || t j) ≡ t j
        go true p = sym (ap t (same_true j k p) ∙ q)
        go false p = refl
