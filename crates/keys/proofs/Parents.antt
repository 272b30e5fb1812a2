-- The parent of a text: the text through its last slash.
use Rattle.std.proofs.Common.{◌≡◌, ℕ, ◌+◌, ◌-◌, ◌<◌, ◌≤◌, length, get_or, take, drop, sym, refl, ap, ◌∙◌, subst, inl, inr, arith, length-append, length-drop}
use Rattle.std.proofs.lemmas.List.{take-append-drop, get_or-drop, get_or-take, get_or_append_left, get_or-append_right, length-take-le, take_at, nil_from_length}
use Rattle.std.proofs.lemmas.Bool.{cases_lt}
use Rattle.keys.specs.Text.{Bytes, slash, BeginsSlash, FinalSlash, PrefixText, Parent}
use Rattle.keys.specs.Texts.{begins_front, ends_at, ends_from, ends_from_final, final_from_ends, final_nil, free_at, free_from, prefix_text_lem}

-- the first i bytes, where no slash follows and the last of them is one
pub parent_at : (t : Bytes) (i : ℕ) → i ≤ length t → ((k : ℕ) → i ≤ k → k < length t → get_or t k 0 ≡ slash → ⊥) → (0 < i → get_or t (i - 1) 0 ≡ slash) → Parent t (take i t)
parent_at t i l none here = (
  drop i t,
  sym (take-append-drop i t),
  free_from (drop i t) (λ k h e. none (i + k) (omega arith) (omega (arith, length-drop i t)) (sym (get_or-drop i t k 0) ∙ e)),
  elim (cases_lt 0 i) [
    | inl p ↦ let n : length (take i t) ≡ i = length-take-le i t l in final_from_ends (take i t) (ends_from (take i t) (omega arith) (ap (λ j. get_or (take i t) (j - 1) 0) n ∙ get_or-take i t (i - 1) 0 (omega arith) ∙ here p))
    | inr p ↦ subst FinalSlash (sym (nil_from_length (take i t) (omega (arith, length-take-le i t l)))) final_nil
  ],
)

not_longer : (t p q : Bytes) → Parent t p → Parent t q → length p < length q → ⊥
not_longer t p q (l, e, free, _) (m, f, _, final) h =
    let s : get_or q (length q - 1) 0 ≡ slash = (ends_at q (ends_from_final q (omega arith) final)).1 in
    let n : length t ≡ length p + length l = ap length e ∙ length-append p l in
    let k : length t ≡ length q + length m = ap length f ∙ length-append q m in
    free_at l free (length q - 1 - length p) (omega arith)
    (sym (get_or-append_right p l (length p) (length q - 1) 0 refl (omega arith)) ∙ ap (λ z. get_or z (length q - 1) 0) (sym e ∙ f) ∙ get_or_append_left q m 0 (length q - 1) (omega arith) ∙ s)

pub parent_within : (t p : Bytes) → Parent t p → length p ≤ length t
parent_within t p (l, e, _, _) = omega (arith, ap length e ∙ length-append p l)

-- a text has one parent
pub parent_unique : (t p q : Bytes) → Parent t p → Parent t q → p ≡ q
parent_unique t p q a b =
    elim (cases_lt (length p) (length q)) [
      | inl h ↦ absurd (not_longer t p q a b h)
      | inr h ↦ elim (cases_lt (length q) (length p)) [
        | inl g ↦ absurd (not_longer t q p b a g)
        | inr g ↦
            let n : length q ≡ length p = omega arith in
            sym (take_at p a.0 (length p) refl) ∙ ap (λ z. take (length p) z) (sym a.1 ∙ b.1) ∙ take_at q b.0 (length p) n
      ]
    ]

-- the parent of a text that doesn't begin with a slash keeps the rule of prefixes
pub prefix_from_parent : (t p : Bytes) → Parent t p → (BeginsSlash t → ⊥) → PrefixText p
prefix_from_parent t p (l, e, _, final) plain = prefix_text_lem p final (λ h. plain (subst BeginsSlash (sym e) (begins_front p l h)))
