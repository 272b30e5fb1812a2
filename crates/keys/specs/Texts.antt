-- Facts on the rules of texts.
use Rattle.std.specs.Prelude.{◌≡◌, ℕ, ◌+◌, ◌-◌, ◌<◌, ◌≤◌, Bool, [], ◌∷◌, ◌++◌, length, take, drop, Decides, ◌≢◌, slice_index, slice_index_or, refl}
use Rattle.std.proofs.Common.{sym, ap, subst, ◌∙◌, append_assoc, arith, length-append, inl, inr}
use mathlib.Core.HLevel.{¬_prop, ×_prop, ×₃_prop, Π_prop, →_prop}
use Rattle.std.proofs.Math.Nat.{ℕ_set}
use Rattle.std.proofs.lemmas.List.{take-append-drop, drop_more, drop_all, get_or_at, get_or-append-add, get_or_append_left, get_or-append_right, nil_from_length, take_at, drop_at, take-append-le, length_push, same_from_push}
use Rattle.std.proofs.lemmas.Bool.{cases_eq, cases_lt}
use Rattle.std.proofs.lemmas.Bool.Decides.{Decides-like}
use Rattle.keys.specs.Text.{Bytes, slash, Begins, BeginsSlash, EndsSlash, DoubleSlash, FinalSlash, SlashFree, KeyText, PrefixText, shortened}

-- the empty text holds nothing
pub nil_holds : (u : Bytes) (b : ℕ) (v : Bytes) → [] ≢ u ++ (b ∷ v)
nil_holds u b v e = omega (arith, simp length-append at (ap length e))

pub key_text_nil : KeyText []
key_text_nil = (λ h. nil_holds h.0 slash [] h.1, λ h. nil_holds [] slash h.0 h.1, λ h. nil_holds h.0 slash (slash ∷ h.1) h.2)

-- the parts of the rule, by name
pub not_ending : (t : Bytes) → KeyText t → EndsSlash t → ⊥
not_ending t k = k.0

pub not_beginning : (t : Bytes) → KeyText t → BeginsSlash t → ⊥
not_beginning t k = k.1

pub not_double : (t : Bytes) → KeyText t → DoubleSlash t → ⊥
not_double t k = k.2

pub key_text : (t : Bytes) → (BeginsSlash t → ⊥) → (EndsSlash t → ⊥) → (DoubleSlash t → ⊥) → KeyText t
key_text t b e d = (e, b, d)

pub key_text_prop : (t : Bytes) → IsProp (KeyText t)
key_text_prop t = ×₃_prop ¬_prop ¬_prop ¬_prop

-- a text cut before one of its bytes
pub cut_at : (t : Bytes) (i : ℕ) → i < length t → t ≡ take i t ++ (slice_index t i ∷ drop (i + 1) t)
cut_at t i h = sym (take-append-drop i t) ∙ ap (λ z. take i t ++ z) (drop_more t i 0 h)

-- slashes by their places
pub begins_from : (t : Bytes) → 0 < length t → slice_index t 0 ≡ slash → BeginsSlash t
begins_from t l h = (drop 1 t, cut_at t 0 l ∙ ap (λ b. b ∷ drop 1 t) h)

pub begins_at : (t : Bytes) → BeginsSlash t → (0 < length t) × (slice_index t 0 ≡ slash)
begins_at t (u, e) = (rw e (omega arith), ap (λ z. slice_index z 0) e)

pub ends_at : (t : Bytes) → EndsSlash t → (0 < length t) × (slice_index t (length t - 1) ≡ slash)
ends_at t (u, e) =
    let n : length t ≡ length u + 1 = ap length e ∙ length_push u slash in
    (omega arith, ap (λ z. slice_index z (length t - 1)) e ∙ get_or_at u slash [] 0 (length t - 1) (omega arith))

pub double_from : (t : Bytes) (i : ℕ) → i + 1 < length t → slice_index t i ≡ slash → slice_index t (i + 1) ≡ slash → DoubleSlash t
double_from t i l h k = (take i t, drop (i + 1 + 1) t, cut_at t i (omega arith) ∙ ap (λ z. take i t ++ (slice_index t i ∷ z)) (drop_more t (i + 1) 0 l) ∙ ap (λ b. take i t ++ (b ∷ slice_index t (i + 1) ∷ drop (i + 1 + 1) t)) h ∙ ap (λ b. take i t ++ (slash ∷ b ∷ drop (i + 1 + 1) t)) k)

pub double_at : (t : Bytes) → DoubleSlash t → (i : ℕ) × (i + 1 < length t) × (slice_index t i ≡ slash) × (slice_index t (i + 1) ≡ slash)
double_at t (u, v, e) =
    let n : length t ≡ length u + (2 + length v) = ap length e ∙ simp length-append (omega arith) in (
      length u,
      omega arith,
      ap (λ z. slice_index z (length u)) e ∙ get_or_at u slash (slash ∷ v) 0 (length u) refl,
      ap (λ z. slice_index z (length u + 1)) e ∙ get_or-append-add u (slash ∷ slash ∷ v) 1 0,
    )

-- no two slashes side by side among the first i bytes
abbrev pub Apart : Bytes → ℕ → Type 0
Apart t i = (k : ℕ) → k + 1 < i → slice_index t k ≡ slash → slice_index t (k + 1) ≢ slash

pub apart_more : (t : Bytes) (i : ℕ) → 1 ≤ i → Apart t i → (slice_index t (i - 1) ≡ slash → slice_index t i ≢ slash) → Apart t (i + 1)
apart_more t i l a h k m p q =
    elim (cases_eq (k + 1) i) [
      | inl e ↦ h (ap (λ j. slice_index t j) (omega arith) ∙ p) (ap (λ j. slice_index t j) (sym e) ∙ q)
      | inr n ↦ a k (omega arith) p q
    ]

pub apart_all : (t : Bytes) (i : ℕ) → length t ≤ i → Apart t i → DoubleSlash t → ⊥
apart_all t i l a d =
    let (k, m, p, q) = double_at t d in
    a k (omega arith) p q

-- the parts of the rule of prefixes, by name
pub final_slash : (t : Bytes) → PrefixText t → FinalSlash t
final_slash t p = p.0

pub prefix_not_beginning : (t : Bytes) → PrefixText t → BeginsSlash t → ⊥
prefix_not_beginning t p = p.1

pub prefix_text_lem : (t : Bytes) → FinalSlash t → (BeginsSlash t → ⊥) → PrefixText t
prefix_text_lem t f b = (f, b)

pub prefix_text_prop : (t : Bytes) → IsProp (PrefixText t)
prefix_text_prop t = ×_prop (Π_prop (λ b. →_prop (ℕ_set b slash))) ¬_prop

pub final_nil : FinalSlash []
final_nil b h = absurd (nil_holds h.0 b [] h.1)

pub prefix_text_nil : PrefixText []
prefix_text_nil = prefix_text_lem [] final_nil (λ h. nil_holds [] slash h.0 h.1)

-- the final character of a text that has any
pub last_at : (t : Bytes) → 0 < length t → t ≡ shortened t ++ (slice_index t (length t - 1) ∷ [])
last_at t l =
    let past : drop (length t - 1 + 1) t ≡ [] = drop_all (length t - 1 + 1) t (omega arith) in
    cut_at t (length t - 1) (omega arith) ∙ ap (λ z. shortened t ++ (slice_index t (length t - 1) ∷ z)) past

pub ends_from : (t : Bytes) → 0 < length t → slice_index t (length t - 1) ≡ slash → EndsSlash t
ends_from t l h = (shortened t, last_at t l ∙ ap (λ b. shortened t ++ (b ∷ [])) h)

pub final_from_ends : (t : Bytes) → EndsSlash t → FinalSlash t
final_from_ends t (u, e) b (v, f) = (same_from_push v u b slash (sym f ∙ e)).1

pub ends_from_final : (t : Bytes) → 0 < length t → FinalSlash t → EndsSlash t
ends_from_final t l f = ends_from t l (f (slice_index t (length t - 1)) (shortened t, last_at t l))

pub begins_front : (p r : Bytes) → BeginsSlash p → BeginsSlash (p ++ r)
begins_front p r (u, e) = (u ++ r, ap (λ z. z ++ r) e)

-- slashes of a text that has none, by their places
pub free_at : (t : Bytes) → SlashFree t → (k : ℕ) → k < length t → slice_index t k ≢ slash
free_at t f k l h = f (take k t) (drop (k + 1) t) (cut_at t k l ∙ ap (λ b. take k t ++ (b ∷ drop (k + 1) t)) h)

pub free_from : (t : Bytes) → ((k : ℕ) → k < length t → slice_index t k ≢ slash) → SlashFree t
free_from t f u v e =
    let n : length t ≡ length u + (1 + length v) = ap length e ∙ simp length-append (omega arith) in
    f (length u) (omega arith) (ap (λ z. slice_index z (length u)) e ∙ get_or_at u slash v 0 (length u) refl)

-- a text that ends with a slash, and the text less that slash
pub shortened-slash : (t : Bytes) → 0 < length t → FinalSlash t → t ≡ shortened t ++ (slash ∷ [])
shortened-slash t l f = last_at t l ∙ ap (λ b. shortened t ++ (b ∷ [])) (f (slice_index t (length t - 1)) (shortened t, last_at t l))

pub shortened-plain : (t : Bytes) → 0 < length t → PrefixText t → BeginsSlash (shortened t) → ⊥
shortened-plain t l p h = prefix_not_beginning t p (subst BeginsSlash (sym (shortened-slash t l (final_slash t p))) (begins_front (shortened t) (slash ∷ []) h))

pub begins_of_front : (p r : Bytes) → 0 < length p → BeginsSlash (p ++ r) → BeginsSlash p
begins_of_front p r l h = begins_from p l (sym (get_or_append_left p r 0 0 l) ∙ (begins_at (p ++ r) h).1)

-- a key's text with a slash behind it
pub prefix_from_key : (t : Bytes) → 0 < length t → KeyText t → PrefixText (t ++ (slash ∷ []))
prefix_from_key t l k =
    prefix_text_lem
    (t ++ (slash ∷ []))
    (final_from_ends (t ++ (slash ∷ [])) (t, refl))
    (λ h. not_beginning t k (begins_of_front t (slash ∷ []) l h))

-- what a comparison with the front decides
pub begins_decides : (t p : Bytes) (r : Bool) → Decides r (p ≡ take (length p) t) → Decides r (Begins t p)
begins_decides t p r =
    Decides-like
    r
    (λ e. (drop (length p) t, sym (take-append-drop (length p) t) ∙ ap (λ z. z ++ drop (length p) t) (sym e)))
    (λ h. sym (ap (λ z. take (length p) z) h.1 ∙ take_at p h.0 (length p) refl))

pub ends_decides : (t : Bytes) (r : Bool) → Decides r (slash ∷ [] ≡ drop (length t - 1) t) → Decides r (EndsSlash t)
ends_decides t r =
    Decides-like
    r
    (λ e. (shortened t, sym (take-append-drop (length t - 1) t) ∙ ap (λ z. shortened t ++ z) (sym e)))
    (λ h.
    let n : length t - 1 ≡ length h.0 = let m : length t ≡ length h.0 + 1 = ap length h.1 ∙ length_push h.0 slash in omega arith in
    sym (ap (λ k. drop k t) n ∙ ap (λ z. drop (length h.0) z) h.1 ∙ drop_at h.0 (slash ∷ []) (length h.0) refl))

-- the empty text keeps both rules
pub key_text_or_nil : (t : Bytes) → (0 < length t → KeyText t) → KeyText t
key_text_or_nil [] f = key_text_nil
key_text_or_nil (b ∷ t) f = f (omega arith)

pub prefix_text_or_nil : (t : Bytes) → (0 < length t → PrefixText t) → PrefixText t
prefix_text_or_nil [] f = prefix_text_nil
prefix_text_or_nil (b ∷ t) f = f (omega arith)

-- a slash of a text with a slash-free part behind it stands in the text
pub slash_in_front : (t s : Bytes) → SlashFree s → (k : ℕ) → k < length (t ++ s) → slice_index (t ++ s) k ≡ slash → (k < length t) × (slice_index t k ≡ slash)
slash_in_front t s f k l e =
    elim (cases_lt k (length t)) [
      | inl b ↦ (b, sym (get_or_append_left t s 0 k b) ∙ e)
      | inr b ↦ absurd (free_at s f (k - length t) (omega (arith, length-append t s)) (sym (get_or-append_right t s (length t) k 0 refl b) ∙ e))
    ]

-- a slash-free part may stand behind any key
pub key_text-suffix : (t s : Bytes) → KeyText t → SlashFree s → KeyText (t ++ s)
key_text-suffix t s key f =
    let n : length (t ++ s) ≡ length t + length s = length-append t s in
    key_text
    (t ++ s)
    (λ h. let p = begins_at (t ++ s) h in let q = slash_in_front t s f 0 p.0 p.1 in not_beginning t key (begins_from t q.0 q.1))
    (λ h.
    let p = ends_at (t ++ s) h in
    let q = slash_in_front t s f (length (t ++ s) - 1) (omega (arith, p.0)) p.1 in
    let e : length (t ++ s) - 1 ≡ length t - 1 = omega (arith, q.0) in
    not_ending t key (ends_from t (omega (arith, q.0)) (ap (λ j. slice_index t j) (sym e) ∙ q.1)))
    (λ h.
    let p = double_at (t ++ s) h in
    let a = slash_in_front t s f p.0 (omega (arith, p.1)) p.2 in
    let b = slash_in_front t s f (p.0 + 1) p.1 p.3 in
    not_double t key (double_from t p.0 b.0 a.1 b.1))

-- what a text begins with, and a text with more behind it
pub begins_more : (t s p : Bytes) → Begins t p → Begins (t ++ s) p
begins_more t s p (r, e) = (r ++ s, ap (λ z. z ++ s) e ∙ append_assoc p r s)

-- a slash-free part changes no prefix that a text lies under
pub begins-suffix : (t s p : Bytes) → SlashFree s → FinalSlash p → Begins (t ++ s) p → Begins t p
begins-suffix t s p f g (r, e) =
    elim (cases_lt 0 (length p)) [
      | inr h ↦ (t, ap (λ z. z ++ t) (sym (nil_from_length p (omega arith))))
      | inl h ↦
          let n : length (t ++ s) ≡ length p + length r = ap length e ∙ length-append p r in
          let last : slice_index_or (t ++ s) (length p - 1) 0 ≡ slash = ap (λ z. slice_index z (length p - 1)) e ∙ get_or_append_left p r 0 (length p - 1) (omega arith) ∙ (ends_at p (ends_from_final p h g)).1 in
          let q : length p - 1 < length t = (slash_in_front t s f (length p - 1) (omega arith) last).0 in
          let front : p ≡ take (length p) t = sym (take_at p r (length p) refl) ∙ ap (λ z. take (length p) z) (sym e) ∙ take-append-le (length p) t s (omega arith) in
          (drop (length p) t, sym (take-append-drop (length p) t) ∙ ap (λ z. z ++ drop (length p) t) (sym front))
    ]
