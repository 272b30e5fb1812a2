-- The components of a text, and which of them begin with two underscores.
use Rattle.std.proofs.Common.{◌≡◌, ℕ, Bool, true, false, ◌&&◌, ◌⊎◌, Decides, List, [], ◌∷◌, ◌++◌, length, take, drop, sym, refl, ap, ◌∙◌, subst, inl, inr, ⊎_elim, true≢false, append_assoc, arith}
use Rattle.std.specs.Prelude.{nat_eq}
use Rattle.std.specs.List.{slice_split, onto_first, list_any, starts_with}
use Rattle.std.proofs.lemmas.Bool.{cases_lt}
use Rattle.std.proofs.lemmas.Bool.Decides.{Decides-eqb, Decides-or}
use Rattle.std.proofs.lemmas.List.{nil_from_length, take-append-drop}
use Rattle.std.proofs.lemmas.List.Splits.{slice_split-cons_yes, slice_split-cons_no}
use Rattle.std.proofs.lemmas.Slice.Eq.{slice_eq-Decides}
use Rattle.keys.specs.Text.{Bytes, slash}
use Rattle.keys.specs.Texts.{ends_from_final, final_from_ends, final_nil, nil_holds}
use Rattle.storage.proofs.Order.{clash}
use Rattle.listings.specs.Listings.{Reserved, underscore}

-- slashes stand between the components
abbrev pub is_slash : ℕ → Bool
is_slash b = nat_eq b slash

-- the first two bytes are underscores
abbrev pub marked : Bytes → Bool
marked t = starts_with nat_eq t (underscore ∷ underscore ∷ [])

-- the first byte is one
abbrev begun : Bytes → Bool
begun t = starts_with nat_eq t (underscore ∷ [])

abbrev pub Marked : Bytes → Type 0
Marked t = (v : Bytes) × (t ≡ underscore ∷ underscore ∷ v)

-- two underscores stand behind a slash
abbrev pub MarkedBehind : Bytes → Type 0
MarkedBehind t = (u : Bytes) × (v : Bytes) × (t ≡ u ++ (slash ∷ underscore ∷ underscore ∷ v))

marked_decides : (t : Bytes) → Decides (marked t) (Marked t)
marked_decides t =
    let d = slice_eq-Decides Decides-eqb (underscore ∷ underscore ∷ []) (take 2 t) (marked t) refl in (
      λ h. (drop 2 t, sym (take-append-drop 2 t) ∙ ap (λ z. z ++ drop 2 t) (sym (d.0 h))),
      λ m. d.1 (sym (ap (take 2) m.1)),
    )

-- a text and its components: the first, and those behind it
record Cut (t : Bytes) : Type 0 where
  pub head : Bytes
  pub rest : List Bytes
  pub parts : slice_split is_slash t ≡ head ∷ rest
  pub first : begun head ≡ begun t
  pub both : marked head ≡ marked t
  pub behind : Decides (list_any marked rest) (MarkedBehind t)

some_marked : (t : Bytes) (c : Cut t) → Decides (list_any marked (c.head ∷ c.rest)) (Marked t ⊎ MarkedBehind t)
some_marked t c = Decides-or (marked c.head) (list_any marked c.rest) (subst (λ b. Decides b (Marked t)) (sym c.both) (marked_decides t)) c.behind

cut : (t : Bytes) → Cut t
cut [] =
    record {
      head = [];
      rest = [];
      parts = refl;
      first = refl;
      both = refl;
      behind = (λ h. absurd (true≢false (sym h)), λ w. absurd (nil_holds w.0 slash (underscore ∷ underscore ∷ w.1) w.2));
    }
cut (x ∷ xs) = by (cut xs) (is_slash x) refl
  where
    behind_slash : Cut xs → (u v : Bytes) → x ∷ xs ≡ u ++ (slash ∷ underscore ∷ underscore ∷ v) → Marked xs ⊎ MarkedBehind xs
    behind_slash c [] v e = inl (v, cc)
    behind_slash c (y ∷ u) v e = inr (u, v, cc)

    behind_other : is_slash x ≡ false → (u v : Bytes) → x ∷ xs ≡ u ++ (slash ∷ underscore ∷ underscore ∷ v) → MarkedBehind xs
    behind_other e [] v h = let s : x ≡ slash = cc in clash (is_slash x) ((Decides-eqb x slash).1 s) e
    behind_other e (y ∷ u) v h = (u, v, cc)

    by : Cut xs → (b : Bool) → is_slash x ≡ b → Cut (x ∷ xs)
    by c true e =
        let s : x ≡ slash = (Decides-eqb x slash).0 e in
        record {
          head = [];
          rest = c.head ∷ c.rest;
          parts = slice_split-cons_yes is_slash x xs e ∙ ap (λ z. [] ∷ z) c.parts;
          first = ap (λ z. begun (z ∷ xs)) (sym s);
          both = ap (λ z. marked (z ∷ xs)) (sym s);
          behind = (
            λ h. ⊎_elim (λ m. ([], m.0, (λ i. s i ∷ m.1 i))) (λ w. (x ∷ w.0, w.1, ap (λ z. x ∷ z) w.2)) ((some_marked xs c).0 h),
            λ w. (some_marked xs c).1 (behind_slash c w.0 w.1 w.2),
          );
        }
    by c false e =
        record {
          head = x ∷ c.head;
          rest = c.rest;
          parts = slice_split-cons_no is_slash x xs e ∙ ap (onto_first x) c.parts;
          first = refl;
          both = ap (λ b. nat_eq underscore x && b) c.first;
          behind = (
            λ h. let w = c.behind.0 h in (x ∷ w.0, w.1, ap (λ z. x ∷ z) w.2),
            λ w. c.behind.1 (behind_other e w.0 w.1 w.2),
          );
        }

pub reserved_from : (t : Bytes) → Marked t ⊎ MarkedBehind t → Reserved t
reserved_from t (inl (v, e)) = ([], v, e, final_nil)
reserved_from t (inr (u, v, e)) = (u ++ (slash ∷ []), v, e ∙ sym (append_assoc u (slash ∷ []) (underscore ∷ underscore ∷ v)), final_from_ends (u ++ (slash ∷ [])) (u, refl))

from_reserved : (t : Bytes) → Reserved t → Marked t ⊎ MarkedBehind t
from_reserved t (u, v, e, f) =
    elim (cases_lt 0 (length u)) [
      | inl l ↦
          let (w, g) = ends_from_final u l f in
          inr (w, v, e ∙ ap (λ z. z ++ (underscore ∷ underscore ∷ v)) g ∙ append_assoc w (slash ∷ []) (underscore ∷ underscore ∷ v))
      | inr l ↦ let n : u ≡ [] = nil_from_length u (omega arith) in inl (v, e ∙ ap (λ z. z ++ (underscore ∷ underscore ∷ v)) n)
    ]

pub reserved_decides : (t : Bytes) (r : Bool) → r ≡ list_any marked (slice_split is_slash t) → Decides r (Reserved t)
reserved_decides t r e =
    let c = cut t in
    let q : r ≡ list_any marked (c.head ∷ c.rest) = e ∙ ap (list_any marked) c.parts in (
      λ h. reserved_from t ((some_marked t c).0 (sym q ∙ h)),
      λ w. q ∙ (some_marked t c).1 (from_reserved t w),
    )
