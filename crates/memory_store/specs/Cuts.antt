-- A row cut by the lengths of its values, in parts.
use Rattle.std.specs.Prelude.{◌≡◌, ℕ, zero, suc, ◌+◌, ◌<◌, ◌≤◌, List, [], ◌∷◌, ◌++◌, length, take, drop, Some, None, Option, slice_index_or, refl}
use Rattle.std.proofs.Common.{sym, ◌∙◌, ap, arith, add_assoc, zero-add, add-zero, length-take, length-drop}
use Rattle.std.proofs.lemmas.List.{take_more, take-append-le, drop-append-le, take_at, drop_at, take-append-drop}
use Rattle.std.proofs.lemmas.Option.{slice_get_read, slice_get_past}
use Rattle.std.proofs.lemmas.List.Sums.{sum_by-cons}
use Rattle.std.specs.List.{slice_get, sum_by, HoldsAt}
use Rattle.std.specs.Borrow.{Bor}
use Rattle.std.specs.Option.{option_map, MatchOption}
use Rattle.keys.specs.Text.{Bytes}
use Rattle.keys.specs.StoreKeys.{text}
use Rattle.storage.specs.Contents.{Contents, keys_of, total, Lawful}
use Rattle.keys.specs.declared.store_key.StoreKey.{StoreKey}
use Rattle.memory_store.specs.declared.slot.Slot.{Slot}
use Rattle.memory_store.specs.Slots.{slot_keys, lens, cut}

pub slot_keys-append : (ps qs : List Slot) → slot_keys (ps ++ qs) ≡ slot_keys ps ++ slot_keys qs
unfolding slot_keys
slot_keys-append [] qs = refl
slot_keys-append (a ∷ ps) qs = ap (λ ks. text a.key ∷ ks) (slot_keys-append ps qs)

pub lens-append : (ps qs : List Slot) → lens (ps ++ qs) ≡ lens ps + lens qs
unfolding lens
lens-append [] qs = sym (zero-add (lens qs))
lens-append (a ∷ ps) qs = ap (λ n. a.len + n) (lens-append ps qs) ∙ sym (add_assoc a.len (lens ps) (lens qs))

-- the keys of the contents are those of the slots
pub keys_of-cut : (ss : List Slot) (row : Bytes) → keys_of (cut ss row) ≡ slot_keys ss
unfolding cut slot_keys
keys_of-cut [] row = refl
keys_of-cut (s ∷ ss) row = ap (λ ks. text s.key ∷ ks) (keys_of-cut ss (drop s.len row))

pub length_cut : (ss : List Slot) (row : Bytes) → length (cut ss row) ≡ length ss
unfolding cut
length_cut [] row = refl
length_cut (s ∷ ss) row = ap suc (length_cut ss (drop s.len row))

-- what lies behind the values does not matter
pub cut_front : (ss : List Slot) (u v : Bytes) → lens ss ≤ length u → cut ss (u ++ v) ≡ cut ss u
unfolding cut lens
cut_front [] u v h = refl
cut_front (s ∷ ss) u v h =
    let n : s.len ≤ length u = omega arith in
    let m : lens ss ≤ length (drop s.len u) = simp length-drop (omega arith) in
    let ih = cut_front ss (drop s.len u) v m in
    let a = take-append-le s.len u v n in
    let b = drop-append-le s.len u v n in
    ap (λ (x : Bytes). record { key = text s.key; value = x } ∷ cut ss (drop s.len (u ++ v))) a
    ∙ ap (λ (c : Contents). record { key = text s.key; value = take s.len u } ∷ c) (ap (cut ss) b ∙ ih)

-- a row of two parts, the first ps long ps its slots say
pub cut-append : (ps qs : List Slot) (u v : Bytes) → length u ≡ lens ps → cut (ps ++ qs) (u ++ v) ≡ cut ps u ++ cut qs v
unfolding cut lens
cut-append [] qs [] v e = refl
cut-append [] qs (x ∷ u) v e = absurd (omega arith)
cut-append (a ∷ ps) qs u v e =
    let n : a.len ≤ length u = omega arith in
    let m : length (drop a.len u) ≡ lens ps = simp length-drop (omega arith) in
    let ih = cut-append ps qs (drop a.len u) v m in
    ap (λ (x : Bytes). record { key = text a.key; value = x } ∷ cut (ps ++ qs) (drop a.len (u ++ v))) (take-append-le a.len u v n)
    ∙ ap (λ (c : Contents). record { key = text a.key; value = take a.len u } ∷ c) (ap (cut (ps ++ qs)) (drop-append-le a.len u v n) ∙ ih)

-- the same around one value
pub cut_around : (ps : List Slot) (s : Slot) (qs : List Slot) (u v w : Bytes) → length u ≡ lens ps → length v ≡ s.len → cut (ps ++ s ∷ qs) (u ++ (v ++ w)) ≡ cut ps u ++ record { key = text s.key; value = v } ∷ cut qs w
unfolding cut
cut_around ps s qs u v w e f =
    cut-append ps (s ∷ qs) u (v ++ w) e
    ∙ ap (λ (c : Contents). cut ps u ++ c)
    (ap (λ (x : Bytes). record { key = text s.key; value = x } ∷ cut qs (drop s.len (v ++ w))) (take_at v w s.len f)
    ∙ ap (λ (x : Bytes). record { key = text s.key; value = v } ∷ cut qs x) (drop_at v w s.len f))

pub total-append : (c d : Contents) → total (c ++ d) ≡ total c + total d
unfolding total
total-append [] d = sym (zero-add (total d))
total-append (e ∷ es) d = ap (λ n. length e.value + n) (total-append es d) ∙ sym (add_assoc (length e.value) (total es) (total d))

pub total-cut : (ss : List Slot) (row : Bytes) → lens ss ≤ length row → total (cut ss row) ≡ lens ss
unfolding cut total lens
total-cut [] row h = refl
total-cut (s ∷ ss) row h =
    let m : lens ss ≤ length (drop s.len row) = simp length-drop (omega arith) in
    let ih = total-cut ss (drop s.len row) m in
    let n : length (take s.len row) ≡ s.len = length-take s.len row ∙ omega arith in
    cc

pub lens-take : (ss : List Slot) (i : ℕ) → lens (take i ss) ≤ lens ss
lens-take ss i = omega (arith, lens-append (take i ss) (drop i ss), ap lens (take-append-drop i ss))

-- the lengths added up, as std adds them
pub sum_by-lens : (ss : List Slot) → sum_by (λ (s : Slot). s.len) ss ≡ lens ss
unfolding lens
sum_by-lens [] = refl
sum_by-lens (s ∷ ss) = sum_by-cons (λ (x : Slot). x.len) s ss ∙ ap (λ n. s.len + n) (sum_by-lens ss)

-- the stored keys keep the rule of keys, and their length
pub lawful_cut : (ss : List Slot) (row : Bytes) → Lawful (cut ss row)
unfolding cut Lawful
lawful_cut [] row = tt
lawful_cut (s ∷ ss) row =
    (s.key.rule, s.key.within, lawful_cut ss (drop s.len row))

-- the n-th key is that of the n-th slot
pub nth_slot_keys : (ss : List Slot) (n : ℕ) → slice_get (slot_keys ss) n ≡ option_map (λ (s : Slot). text s.key) (slice_get ss n)
unfolding slot_keys
nth_slot_keys [] n = refl
nth_slot_keys (s ∷ ss) zero = refl
nth_slot_keys (s ∷ ss) (suc n) = nth_slot_keys ss n

pub nth_cut : (ss : List Slot) (row : Bytes) (n : ℕ) → slice_get (keys_of (cut ss row)) n ≡ option_map (λ (s : Slot). text s.key) (slice_get ss n)
nth_cut ss row n = ap (λ (ks : List Bytes). slice_get ks n) (keys_of-cut ss row) ∙ nth_slot_keys ss n

-- the same, of what is read of slots behind a reference
pub key_given :
    (ss items : List Slot) (row : Bytes) (n : ℕ) (o : Option (Bor Slot)) (r : Option StoreKey)
    → items ≡ ss
    → MatchOption o (length items ≤ n) (λ x. (n < length items) × HoldsAt (λ y. x.now ≡ y) items n)
    → r ≡ option_map (λ x. x.now.key) o
    → option_map text r ≡ slice_get (keys_of (cut ss row)) n
key_given ss items row n o r e h is =
    ap (option_map text) is
    ∙ go o h
    ∙ ap (λ (xs : List Slot). option_map (λ (x : Slot). text x.key) (slice_get xs n)) e
    ∙ sym (nth_cut ss row n)
  where
    go : (o : Option (Bor Slot))
        → MatchOption o (length items ≤ n) (λ x. (n < length items) × HoldsAt (λ y. x.now ≡ y) items n)
        → option_map text (option_map (λ x. x.now.key) o) ≡ option_map (λ (x : Slot). text x.key) (slice_get items n)
    go None h = ap (option_map (λ (x : Slot). text x.key)) (sym (slice_get_past items n h))
    go (Some x) h = ap (option_map (λ (x : Slot). text x.key)) (sym (slice_get_read items (length items) n x.now refl h.0 (h.1 x.now)))

pub lens_more : (ss : List Slot) (i : ℕ) (d : Slot) → i < length ss → lens (take (i + 1) ss) ≡ lens (take i ss) + (slice_index_or ss i d).len
unfolding lens
lens_more ss i d h =
    ap lens (take_more ss i d h)
    ∙ lens-append (take i ss) (slice_index_or ss i d ∷ [])
    ∙ ap (λ n. lens (take i ss) + n) (add-zero (slice_index_or ss i d).len)

pub key_there : (ss items : List Slot) (row : Bytes) (n : ℕ) (s : Slot) → items ≡ ss → n < length items → s ≡ slice_index_or items n s → Some (text s.key) ≡ slice_get (keys_of (cut ss row)) n
key_there ss items row n s e h is =
    sym (nth_cut ss row n ∙ ap (λ (xs : List Slot). option_map (λ (x : Slot). text x.key) (slice_get xs n)) (sym e) ∙ ap (option_map (λ (x : Slot). text x.key)) (slice_get_read items (length items) n s refl h is))

pub no_key : (ss items : List Slot) (row : Bytes) (n : ℕ) → items ≡ ss → length items ≤ n → None ≡ slice_get (keys_of (cut ss row)) n
no_key ss items row n e h =
    sym (nth_cut ss row n ∙ ap (λ (xs : List Slot). option_map (λ (x : Slot). text x.key) (slice_get xs n)) (sym e) ∙ ap (option_map (λ (x : Slot). text x.key)) (slice_get_past items n h))
