-- What a key has behind a prefix: a component and a slash, or no slash.
use Rattle.std.proofs.Common.{◌≡◌, ℕ, Bool, true, false, not, Decides, ◌+◌, ◌<◌, ◌≤◌, ◌⊎◌, [], ◌∷◌, ◌++◌, length, get_or, take, drop, Some, None, Option, Result, Ordering, Less, Equal, Greater, sym, refl, ap, ◌∙◌, subst, inl, inr, ⊎_elim, true≢false, append_assoc, arith, length-append}
use Rattle.std.specs.Cmp.Lexicographic.{slice_cmp}
use Rattle.std.specs.Ordering.{ordering_then, is_lt, nat_cmp}
use Rattle.order.proofs.Orders.{numbers_lawful}
use Rattle.keys.specs.ByteOrder.{compare_bytes}
use Rattle.keys.specs.ByteOrderLemmas.{compare_front}
use Rattle.std.proofs.lemmas.List.{append_cancel_left, take-append-drop, take_at, get_or_at, get_or-take, length-take-le, nil_from_length}
use Rattle.std.proofs.lemmas.Bool.{cases_lt}
use Rattle.std.specs.Result.{result_ok}
use Rattle.std.specs.Option.{is_some, IfSome}
use Rattle.std.specs.Cmp.Lexicographic.{pointwise}
use Rattle.std.specs.Prelude.{nat_eq}
use Rattle.std.proofs.lemmas.Bool.Decides.{Decides-eqb}
use Rattle.std.proofs.lemmas.Slice.Eq.{slice_eq-Decides}
use Rattle.storage.proofs.Order.{clash}
use Rattle.keys.specs.Rows.{RowOf}
use Rattle.keys.specs.StorePrefixes.{prefix_text, MadePrefix, ParentIs}
use Rattle.keys.specs.Text.{Bytes, slash, Begins, BeginsSlash, SlashFree, FinalSlash, Parent, KeyText, PrefixText}
use Rattle.keys.specs.declared.row.Row.{Row}
use Rattle.keys.specs.declared.store_prefix.StorePrefix.{StorePrefix}
use Rattle.keys.specs.declared.store_prefix.StorePrefixError.{StorePrefixError}
use Rattle.keys.specs.RowsLemmas.{same_row}
use Rattle.keys.specs.StorePrefixesLemmas.{prefix_accepted}
use Rattle.keys.specs.Texts.{cut_at, begins_front, ends_from_final, final_from_ends, free_from, not_beginning, not_double, prefix_text_lem}
use Rattle.listings.specs.Listings.{Beneath, Extends, Reserved, row_for}
use Rattle.listings.specs.Picks.{Picks, ChildOf}
use Rattle.listings.specs.declared.pick.Selection.TheVariants.{DirectKeys, Children}

pub row_for_lem : (t : Bytes) (w : Row) → RowOf t w → w ≡ row_for t
row_for_lem t w h = same_row w (row_for t) h.bytes h.long

-- the parent of a text, as no slash after the prefix
pub parent_from_beneath : (p t : Bytes) → FinalSlash p → Beneath p t → Parent t p
parent_from_beneath p t f (r, e, free) = (r, e, free, f)

pub beneath_from_parent : (p t : Bytes) → Parent t p → Beneath p t
beneath_from_parent p t (r, e, free, f) = (r, e, free)

pub direct_yes : (p k : Bytes) (q : StorePrefix) (w : Row) → ParentIs k q → prefix_text q ≡ p → RowOf k w → Picks DirectKeys p k (Some w)
unfolding ParentIs
direct_yes p k q w h e r = (k, (refl, beneath_from_parent p k (subst (Parent k) e h.0)), row_for_lem k w r)

pub direct_no : (p k : Bytes) (q : StorePrefix) → FinalSlash p → ParentIs k q → (prefix_text q ≡ p → ⊥) → Picks DirectKeys p k None
unfolding ParentIs
direct_no p k q f h n t d = n (sym (h.1 p (parent_from_beneath p k f d.1)))

pub direct_then : (p k : Bytes) (q : StorePrefix) (b : Bool) (r : Option Row) → FinalSlash p → ParentIs k q → Decides b (prefix_text q ≡ p) → is_some r ≡ b → IfSome r (RowOf k) → Picks DirectKeys p k r
direct_then p k q b None f h d v s = direct_no p k q f h (λ e. clash b (d.1 e) (sym v))
direct_then p k q b (Some w) f h d v s = direct_yes p k q w h (d.0 (sym v)) s

-- no slash behind a prefix that ends with one, or is empty, begins the rest of a key
no_first_slash : (p r : Bytes) → KeyText (p ++ (slash ∷ r)) → FinalSlash p → ⊥
no_first_slash p r key f =
    elim (cases_lt 0 (length p)) [
      | inl h ↦
          let (u, e) = ends_from_final p h f in
          not_double (p ++ (slash ∷ r)) key (u, r, ap (λ z. z ++ (slash ∷ r)) e ∙ append_assoc u (slash ∷ []) (slash ∷ r))
      | inr h ↦ not_beginning (p ++ (slash ∷ r)) key (r, ap (λ z. z ++ (slash ∷ r)) (nil_from_length p (omega arith)))
    ]

-- a key that extends a child prefix begins with the prefix
pub begins_from_extends : (p k t : Bytes) → Extends p k t → Begins k p
begins_from_extends p k t (s, e, l, f, b) =
    let (r, g) = b in
    (((s ++ (slash ∷ [])) ++ r), g ∙ ap (λ z. z ++ r) e ∙ append_assoc p (s ++ (slash ∷ [])) r)

-- and has a slash behind it
extends_parts : (p s r : Bytes) → (p ++ (s ++ (slash ∷ []))) ++ r ≡ p ++ (s ++ (slash ∷ r))
extends_parts p s r = append_assoc p (s ++ (slash ∷ [])) r ∙ ap (λ z. p ++ z) (append_assoc s (slash ∷ []) r)

pub key_from_extends : (p k t : Bytes) → (x : Extends p k t) → k ≡ p ++ (x.0 ++ (slash ∷ x.4.0))
key_from_extends p k t (s, e, l, f, b) =
    let (r, g) = b in
    g ∙ ap (λ z. z ++ r) e ∙ extends_parts p s r

pub child_none : (p k rest : Bytes) → k ≡ p ++ rest → ((j : ℕ) → j < length rest → get_or rest j 0 ≡ slash → ⊥) → (t : Bytes) → Extends p k t → ⊥
child_none p k rest e none t x =
    let s : Bytes = x.0 in
    let r : Bytes = x.4.0 in
    let q : rest ≡ s ++ (slash ∷ r) = append_cancel_left p rest (s ++ (slash ∷ r)) (sym e ∙ key_from_extends p k t x) in
    let n : length rest ≡ length s + (1 + length r) = ap length q ∙ simp length-append (omega arith) in
    none (length s) (omega arith) (ap (λ z. get_or z (length s) 0) q ∙ get_or_at s slash r 0 (length s) refl)

-- a child prefix keeps the rule of prefixes
pub child_rule : (p k t : Bytes) → KeyText k → Extends p k t → PrefixText t
child_rule p k t key (s, e, l, f, b) =
    let (r, g) = b in
    prefix_text_lem
    t
    (final_from_ends t (p ++ s, e ∙ sym (append_assoc p s (slash ∷ []))))
    (λ h. not_beginning k key (subst BeginsSlash (sym g) (begins_front t r h)))

pub child_short : (p k t : Bytes) → Extends p k t → length t ≤ length k
child_short p k t (s, e, l, f, b) =
    let (r, g) = b in
    omega (arith, ap length g ∙ length-append t r)

-- what is behind a prefix that a key begins with
pub stripped : (a b p q rest : Bytes) → a ≡ b → p ≡ q → pointwise nat_eq (take (length p) a) p ≡ true → rest ≡ drop (length p) a → b ≡ q ++ rest
stripped a b p q rest e f h behind =
    sym e
    ∙ sym (take-append-drop (length p) a)
    ∙ ap (λ z. z ++ drop (length p) a) ((slice_eq-Decides Decides-eqb (take (length p) a) p true (sym h)).0 refl ∙ f)
    ∙ ap (λ z. q ++ z) (sym behind)

pub not_stripped : (a b p q : Bytes) → a ≡ b → p ≡ q → pointwise nat_eq (take (length p) a) p ≡ false → (t : Bytes) → Extends q b t → ⊥
not_stripped a b p q e f h t x =
    let (rest, g) = begins_from_extends q b t x in
    let whole : a ≡ p ++ rest = e ∙ g ∙ ap (λ z. z ++ rest) (sym f) in
    true≢false (sym ((slice_eq-Decides Decides-eqb (take (length p) a) p false (sym h)).1 (ap (take (length p)) whole ∙ take_at p rest (length p) refl)))

-- a key cut behind the first slash after a prefix
module _ (p k rest : Bytes) (key : KeyText k) (f : FinalSlash p) (e : k ≡ p ++ rest) (m : ℕ) (inside : m < length rest) (is : get_or rest m 0 ≡ slash) (free : (j : ℕ) → j < m → get_or rest j 0 ≡ slash → ⊥) where
  pub child_found : Extends p k (take (length p + m + 1) k)
  child_found =
      let s : Bytes = take m rest in
      let size : length s ≡ m = length-take-le m rest (omega arith) in
      let cut : rest ≡ s ++ (slash ∷ drop (m + 1) rest) = cut_at rest m inside ∙ ap (λ x. s ++ (x ∷ drop (m + 1) rest)) is in
      let whole : k ≡ (p ++ (s ++ (slash ∷ []))) ++ drop (m + 1) rest = e ∙ ap (λ z. p ++ z) cut ∙ sym (extends_parts p s (drop (m + 1) rest)) in
      let front : length (p ++ (s ++ (slash ∷ []))) ≡ length p + m + 1 = simp length-append (omega arith) in (
        s,
        ap (λ z. take (length p + m + 1) z) whole ∙ take_at (p ++ (s ++ (slash ∷ []))) (drop (m + 1) rest) (length p + m + 1) front,
        elim (cases_lt 0 m) [
          | inl h ↦ omega arith
          | inr h ↦
              let none : s ≡ [] = nil_from_length s (omega arith) in
              absurd (no_first_slash p (drop (m + 1) rest) (subst KeyText (e ∙ ap (λ z. p ++ z) (cut ∙ ap (λ z. z ++ (slash ∷ drop (m + 1) rest)) none)) key) f)
        ],
        free_from s (λ j l h. free j (omega arith) (sym (get_or-take m rest j 0 (omega arith)) ∙ h)),
        (drop (length p + m + 1) k, sym (take-append-drop (length p + m + 1) k)),
      )

  pub child_made : (r : Result StorePrefix StorePrefixError) (o : Option StorePrefix) → length k ≤ 120 → MadePrefix (take (length p + m + 1) k) r → o ≡ result_ok r → ChildOf p k o
  child_made r o l made h =
      let x = child_found in
      let (q, is, t) = prefix_accepted (take (length p + m + 1) k) r made (omega (arith, child_short p k (take (length p + m + 1) k) x)) (child_rule p k (take (length p + m + 1) k) key x) in
      rw (h, is) (subst (Extends p k) (sym t) x)

-- a text cut at its first slash has one front
cut_unique : (a b x y : Bytes) → SlashFree a → SlashFree b → a ++ (slash ∷ x) ≡ b ++ (slash ∷ y) → a ≡ b
cut_unique [] [] x y f g e = refl
cut_unique [] (c ∷ b) x y f g e = absurd (g [] b (let h : slash ≡ c = cc in ap (λ z. z ∷ b) (sym h)))
cut_unique (c ∷ a) [] x y f g e = absurd (f [] a (let h : c ≡ slash = cc in ap (λ z. z ∷ a) h))
cut_unique (c ∷ a) (d ∷ b) x y f g e =
    let h : c ≡ d = cc in
    let t : a ++ (slash ∷ x) ≡ b ++ (slash ∷ y) = cc in
    let q = cut_unique a b x y (free_tail c a f) (free_tail d b g) t in
    λ i. h i ∷ q i
  where
    free_tail : (c : ℕ) (a : Bytes) → SlashFree (c ∷ a) → SlashFree a
    free_tail c a f u v e = f (c ∷ u) v (ap (λ z. c ∷ z) e)

pub extends_unique : (p k t u : Bytes) → Extends p k t → Extends p k u → t ≡ u
extends_unique p k t u x y =
    let e = sym (key_from_extends p k t x) ∙ key_from_extends p k u y in
    let q : x.0 ≡ y.0 = cut_unique x.0 y.0 x.4.0 y.4.0 x.3 y.3 (append_cancel_left p (x.0 ++ (slash ∷ x.4.0)) (y.0 ++ (slash ∷ y.4.0)) e) in
    x.1 ∙ ap (λ z. p ++ (z ++ (slash ∷ []))) q ∙ sym y.1

-- the child prefix t, where it is not reserved
pub child_then : (p k : Bytes) (q : StorePrefix) (t : Bytes) (b : Bool) (r : Option Row) → ChildOf p k (Some q) → t ≡ prefix_text q → Decides b (Reserved t) → is_some r ≡ not b → IfSome r (RowOf (prefix_text q)) → Picks Children p k r
child_then p k q t true None x e d v s = λ u y. y.1 (subst Reserved (e ∙ extends_unique p k (prefix_text q) u x y.0) (d.0 refl))
child_then p k q t false None x e d v s = absurd (true≢false (sym v))
child_then p k q t true (Some w) x e d v s = absurd (true≢false v)
child_then p k q t false (Some w) x e d v s = (prefix_text q, (x, λ h. clash false (d.1 (subst Reserved (sym e) h)) refl), row_for_lem (prefix_text q) w s)

-- texts cut at their first slash: the fronts are one, or stand in the order of the texts
pub cut_order : (a b x y : Bytes) → SlashFree a → SlashFree b → compare_bytes (a ++ (slash ∷ x)) (b ++ (slash ∷ y)) ≡ Less → (a ≡ b) ⊎ (compare_bytes (a ++ (slash ∷ [])) (b ++ (slash ∷ [])) ≡ Less)
unfolding compare_bytes
cut_order [] [] x y f g l = inl refl
cut_order [] (c ∷ b) x y f g l = go (nat_cmp slash c) refl l
  where
    go : (k : Ordering) → nat_cmp slash c ≡ k → ordering_then k (slice_cmp nat_cmp x (b ++ (slash ∷ y))) ≡ Less → (◌≡◌ {A = Bytes} [] (c ∷ b)) ⊎ (ordering_then (nat_cmp slash c) (slice_cmp nat_cmp [] (b ++ (slash ∷ []))) ≡ Less)
    go Less e h = inr (ap (λ k. ordering_then k (slice_cmp nat_cmp [] (b ++ (slash ∷ [])))) e)
    go Equal e h = absurd (g [] b (ap (λ z. z ∷ b) (sym (numbers_lawful.equal slash c e))))
    go Greater e h = absurd (true≢false (sym (ap is_lt h)))
cut_order (c ∷ a) [] x y f g l = go (nat_cmp c slash) refl l
  where
    go : (k : Ordering) → nat_cmp c slash ≡ k → ordering_then k (slice_cmp nat_cmp (a ++ (slash ∷ x)) y) ≡ Less → (◌≡◌ {A = Bytes} (c ∷ a) []) ⊎ (ordering_then (nat_cmp c slash) (slice_cmp nat_cmp (a ++ (slash ∷ [])) []) ≡ Less)
    go Less e h = inr (ap (λ k. ordering_then k (slice_cmp nat_cmp (a ++ (slash ∷ [])) [])) e)
    go Equal e h = absurd (f [] a (ap (λ z. z ∷ a) (numbers_lawful.equal c slash e)))
    go Greater e h = absurd (true≢false (sym (ap is_lt h)))
cut_order (c ∷ a) (d ∷ b) x y f g l = go (cut_order a b x y (λ u v e. f (c ∷ u) v (ap (λ z. c ∷ z) e)) (λ u v e. g (d ∷ u) v (ap (λ z. d ∷ z) e))) (nat_cmp c d) refl l
  where
    go : (slice_cmp nat_cmp (a ++ (slash ∷ x)) (b ++ (slash ∷ y)) ≡ Less → (a ≡ b) ⊎ (slice_cmp nat_cmp (a ++ (slash ∷ [])) (b ++ (slash ∷ [])) ≡ Less)) → (k : Ordering) → nat_cmp c d ≡ k → ordering_then k (slice_cmp nat_cmp (a ++ (slash ∷ x)) (b ++ (slash ∷ y))) ≡ Less → (◌≡◌ {A = Bytes} (c ∷ a) (d ∷ b)) ⊎ (ordering_then (nat_cmp c d) (slice_cmp nat_cmp (a ++ (slash ∷ [])) (b ++ (slash ∷ []))) ≡ Less)
    go ih Less e h = inr (ap (λ k. ordering_then k (slice_cmp nat_cmp (a ++ (slash ∷ [])) (b ++ (slash ∷ [])))) e)
    go ih Equal e h =
        let q : c ≡ d = numbers_lawful.equal c d e in
        ⊎_elim (λ s. inl (λ i. q i ∷ s i)) (λ s. inr (ap (λ k. ordering_then k (slice_cmp nat_cmp (a ++ (slash ∷ [])) (b ++ (slash ∷ [])))) e ∙ s)) (ih h)
    go ih Greater e h = absurd (true≢false (sym (ap is_lt h)))

-- the child prefixes of keys in order are one, or in order
pub extends_order : (p j k t u : Bytes) → Extends p j t → Extends p k u → compare_bytes j k ≡ Less → (t ≡ u) ⊎ (compare_bytes t u ≡ Less)
extends_order p j k t u x y l =
    let a : Bytes = x.0 in
    let b : Bytes = y.0 in
    let keys : compare_bytes (a ++ (slash ∷ x.4.0)) (b ++ (slash ∷ y.4.0)) ≡ Less =
    sym (compare_front p (a ++ (slash ∷ x.4.0)) (b ++ (slash ∷ y.4.0))) ∙ (λ i. compare_bytes (sym (key_from_extends p j t x) i) (sym (key_from_extends p k u y) i)) ∙ l in
    ⊎_elim
    (λ e. inl (x.1 ∙ ap (λ z. p ++ (z ++ (slash ∷ []))) e ∙ sym y.1))
    (λ e. inr ((λ i. compare_bytes (x.1 i) (y.1 i)) ∙ compare_front p (a ++ (slash ∷ [])) (b ++ (slash ∷ [])) ∙ e))
    (cut_order a b x.4.0 y.4.0 x.3 y.3 keys)
