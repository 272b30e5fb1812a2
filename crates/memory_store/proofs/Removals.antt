-- Keys taken out of slots and row.
use Rattle.std.proofs.Common.{◌≡◌, ℕ, suc, ◌+◌, ◌-◌, ◌<◌, ◌≤◌, Bool, false, ◌⊎◌, List, [], ◌∷◌, ◌++◌, length, get_or, take, drop, sym, refl, ap, ◌∙◌, inl, inr, arith, length-append, length-take, length-drop}
use Rattle.std.proofs.lemmas.Bool.{cases_eq}
use Rattle.std.proofs.lemmas.List.{get_or-append_right, get_or-drop, get_or_default}
use Rattle.keys.specs.Text.{Bytes}
use Rattle.keys.specs.StoreKeys.{text}
use Rattle.storage.specs.Contents.{Contents, without}
use Rattle.storage.proofs.Finds.{without_keep}
use Rattle.memory_store.specs.declared.slot.Slot.{Slot}
use Rattle.memory_store.specs.Slots.{cut}

-- where no key passes the test, nothing goes
pub none_pass : (t : Bytes → Bool) (ss : List Slot) (row : Bytes) → ((j : ℕ) (d : Slot) → j < length ss → t (text (get_or ss j d).key) ≡ false) → without t (cut ss row) ≡ cut ss row
unfolding cut without
none_pass t [] row h = refl
none_pass t (s ∷ ss) row h =
    without_keep t _ (cut ss (drop s.len row)) (h 0 s (omega arith))
    ∙ ap (λ (c : Contents). record { key = text s.key; value = take s.len row } ∷ c) (none_pass t ss (drop s.len row) (λ j d l. h (suc j) d (omega arith)))

-- what stands from a place on once the slot at the place is out stood one higher
above_out : (ss ss' : List Slot) (i : ℕ) → i < length ss → ss' ≡ take i ss ++ drop (i + 1) ss → (j : ℕ) (d : Slot) → i ≤ j → get_or ss' j d ≡ get_or ss (j + 1) d
above_out ss ss' i h e j d l =
    ap (λ (x : List Slot). get_or x j d) e
    ∙ get_or-append_right (take i ss) (drop (i + 1) ss) i j d (length-take i ss ∙ omega arith) l
    ∙ get_or-drop (i + 1) ss (j - i) d
    ∙ ap (λ n. get_or ss n d) (omega arith)

-- no slot from a place on passes the test
abbrev pub NoneFrom : (Bytes → Bool) → List Slot → ℕ → Type 0
NoneFrom t ss i = (j : ℕ) (d : Slot) → i ≤ j → j < length ss → t (text (get_or ss j d).key) ≡ false

module _ (t : Bytes → Bool) (ss : List Slot) (i m : ℕ) (next : i ≡ m + 1) (h : m < length ss) (none : NoneFrom t ss i) where
  -- the slot below the place is out
  pub none_out : (ss' : List Slot) → ss' ≡ take m ss ++ drop (m + 1) ss → NoneFrom t ss' m
  none_out ss' e j d l k =
      ap (λ (x : Slot). t (text x.key)) (above_out ss ss' m h e j d l)
      ∙ none (j + 1) d (omega arith) (omega (arith, ap length e, length-append (take m ss) (drop (m + 1) ss), length-take m ss, length-drop (m + 1) ss))

  -- it fails the test
  pub none_more : (s : Slot) → s ≡ get_or ss m s → t (text s.key) ≡ false → NoneFrom t ss m
  none_more s is f j d l k = go (cases_eq j m)
    where
      go : (j ≡ m) ⊎ (j ≡ m → ⊥) → t (text (get_or ss j d).key) ≡ false
      go (inl e) = ap (λ n. t (text (get_or ss n d).key)) e ∙ ap (λ (x : Slot). t (text x.key)) (get_or_default ss m d s h ∙ sym is) ∙ f
      go (inr n) = none j d (omega arith) k
