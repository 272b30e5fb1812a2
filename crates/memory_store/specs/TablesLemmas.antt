-- A key with its value put into slots and row, or taken out.
use Rattle.std.specs.Prelude.{◌≡◌, ℕ, ◌+◌, ◌<◌, ◌≤◌, true, List, ◌∷◌, ◌++◌, length, take, drop, Some, None, Option, slice_index_or, refl}
use Rattle.std.proofs.Math.Path.{sym, ap}
use Rattle.std.proofs.Common.{◌∙◌, length-take, length-drop}
use native.Mathlib.Omega.{arith}
use Rattle.std.proofs.Math.ListN.{length-append}
use Rattle.std.specs.List.{insert}
use Rattle.std.proofs.lemmas.List.{take-append-drop, take_at, drop_at, drop-drop, drop_more}
use Rattle.keys.specs.Text.{Bytes}
use Rattle.keys.specs.StoreKeys.{text}
use Rattle.storage.specs.Contents.{same, found, put, without, keys_of, ascending, Gap}
use Rattle.storage.proofs.Ascends.{ascending_split, ascending_inserted, ascending_removed}
use Rattle.storage.proofs.Places.{entry, found_at, found_gap, put_gap, without_gap, without_at}
use Rattle.memory_store.specs.declared.slot.Slot.{Slot}
use Rattle.memory_store.specs.Slots.{slot_keys, lens, cut, Packed, GapAt}
use Rattle.memory_store.specs.Cuts.{slot_keys-append, lens-append, lens-take, keys_of-cut, cut-append, cut_around}

-- a place between keys is one between the entries of those keys
gap_cut : (k : Bytes) (ps qs : List Slot) (u v : Bytes) → Gap k (slot_keys ps) (slot_keys qs) → Gap k (keys_of (cut ps u)) (keys_of (cut qs v))
gap_cut k ps qs u v g = rw (keys_of-cut ps u, keys_of-cut qs v) g

module _ (ss : List Slot) (row : Bytes) (i at : ℕ) (is : at ≡ lens (take i ss)) (packed : Packed ss row) where
  front : length (take at row) ≡ lens (take i ss)
  front = length-take at row ∙ omega (arith, is, lens-take ss i, packed.fills)

  -- slots and row, cut at the place i
  halves : cut ss row ≡ cut (take i ss) (take at row) ++ cut (drop i ss) (drop at row)
  halves =
      ap (λ (x : List Slot). cut x row) (sym (take-append-drop i ss))
      ∙ ap (cut (take i ss ++ drop i ss)) (sym (take-append-drop at row))
      ∙ cut-append (take i ss) (drop i ss) (take at row) (drop at row) front

  -- a key between the slots is not stored
  pub absent_there : (k : Bytes) → GapAt k i ss → found k (cut ss row) ≡ None
  absent_there k gap = ap (found k) halves ∙ found_gap k _ _ (gap_cut k (take i ss) (drop i ss) _ _ gap)

  -- nor is there anything to take out
  pub absent_kept : (k : Bytes) → GapAt k i ss → without (λ j. same j k) (cut ss row) ≡ cut ss row
  absent_kept k gap =
      ap (without (λ j. same j k)) halves ∙ without_gap k _ _ (gap_cut k (take i ss) (drop i ss) _ _ gap) ∙ sym halves

  module _ (s : Slot) (value : Bytes) (n : s.len ≡ length value) (gap : GapAt (text s.key) i ss) where
    put_contents : cut (insert ss i s) (take at row ++ (value ++ drop at row)) ≡ put (text s.key) value (cut ss row)
    put_contents =
        cut_around (take i ss) s (drop i ss) (take at row) value (drop at row) front (sym n)
        ∙ sym (ap (put (text s.key) value) halves ∙ put_gap (text s.key) value _ _ (gap_cut (text s.key) (take i ss) (drop i ss) _ _ gap))

    put_ordered : ascending (slot_keys (insert ss i s)) ≡ true
    unfolding slot_keys
    put_ordered =
        let e : slot_keys (take i ss) ++ slot_keys (drop i ss) ≡ slot_keys ss = sym (slot_keys-append (take i ss) (drop i ss)) ∙ ap slot_keys (take-append-drop i ss) in
        ap ascending (slot_keys-append (take i ss) (s ∷ drop i ss))
        ∙ ascending_inserted (slot_keys (take i ss)) (text s.key) (slot_keys (drop i ss)) (ap ascending e ∙ packed.ordered) gap

    put_fills : lens (insert ss i s) ≡ length (take at row ++ (value ++ drop at row))
    unfolding lens
    put_fills =
        lens-append (take i ss) (s ∷ drop i ss)
        ∙ omega (
          arith,
          n,
          front,
          packed.fills,
          lens-append (take i ss) (drop i ss),
          ap lens (take-append-drop i ss),
          length-append (take at row) (value ++ drop at row),
          length-append value (drop at row),
          length-append (take at row) (drop at row),
          ap length (take-append-drop at row),
        )

    pub put_in : (ss' : List Slot) (row' : Bytes) → ss' ≡ insert ss i s → row' ≡ take at row ++ (value ++ drop at row) → Packed ss' row' × (cut ss' row' ≡ put (text s.key) value (cut ss row))
    put_in ss' row' e f = (
      record { ordered = ap (λ (x : List Slot). ascending (slot_keys x)) e ∙ put_ordered; fills = ap lens e ∙ put_fills ∙ ap length (sym f) },
      ap (λ (x : List Slot). cut x row') e ∙ ap (cut (insert ss i s)) f ∙ put_contents,
    )

  module _ (s d : Slot) (within : i < length ss) (here : s ≡ slice_index_or ss i d) where
    parts : ss ≡ take i ss ++ s ∷ drop (i + 1) ss
    parts =
        sym (take-append-drop i ss)
        ∙ ap (λ (x : List Slot). take i ss ++ x) (drop_more ss i d within ∙ ap (λ (x : Slot). x ∷ drop (i + 1) ss) (sym here))

    abbrev pub value : Bytes
    value = take s.len (drop at row)

    sums : lens ss ≡ lens (take i ss) + (s.len + lens (drop (i + 1) ss))
    unfolding lens
    sums = ap lens parts ∙ lens-append (take i ss) (s ∷ drop (i + 1) ss)

    whole : row ≡ take at row ++ (value ++ drop (at + s.len) row)
    whole =
        sym (take-append-drop at row)
        ∙ ap (λ (x : Bytes). take at row ++ x) (sym (take-append-drop s.len (drop at row)) ∙ ap (λ (x : Bytes). take s.len (drop at row) ++ x) (drop-drop s.len at row))

    pub sized : length value ≡ s.len
    sized = length-take s.len (drop at row) ∙ omega (arith, length-drop at row, packed.fills, sums, is)

    around : cut ss row ≡ cut (take i ss) (take at row) ++ entry (text s.key) value ∷ cut (drop (i + 1) ss) (drop (at + s.len) row)
    around =
        ap (λ (x : List Slot). cut x row) parts
        ∙ ap (cut (take i ss ++ s ∷ drop (i + 1) ss)) whole
        ∙ cut_around (take i ss) s (drop (i + 1) ss) (take at row) value (drop (at + s.len) row) front sized

    keyed : slot_keys ss ≡ slot_keys (take i ss) ++ text s.key ∷ slot_keys (drop (i + 1) ss)
    unfolding slot_keys
    keyed = ap slot_keys parts ∙ slot_keys-append (take i ss) (s ∷ drop (i + 1) ss)

    gap_here : Gap (text s.key) (slot_keys (take i ss)) (slot_keys (drop (i + 1) ss))
    gap_here = ascending_split (slot_keys (take i ss)) (text s.key) (slot_keys (drop (i + 1) ss)) (ap ascending (sym keyed) ∙ packed.ordered)

    first : length (take i ss) ≡ i
    first = length-take i ss ∙ omega arith

    -- the value ends inside the row
    pub ends : at + s.len ≤ length row
    ends = omega (arith, is, sums, packed.fills)

    -- the key's value, and its place once it is out
    pub found_there : found (text s.key) (cut ss row) ≡ Some value
    found_there =
        ap (found (text s.key)) around
        ∙ found_at (text s.key) _ (entry (text s.key) value) _ (gap_cut (text s.key) (take i ss) (drop (i + 1) ss) _ row gap_here).below refl

    pub gap_there : (ss' : List Slot) → ss' ≡ take i ss ++ drop (i + 1) ss → GapAt (text s.key) i ss'
    gap_there ss' e =
        rw (e, take_at (take i ss) (drop (i + 1) ss) i first, drop_at (take i ss) (drop (i + 1) ss) i first) gap_here

    taken_contents : cut (take i ss ++ drop (i + 1) ss) (take at row ++ drop (at + s.len) row) ≡ without (λ j. same j (text s.key)) (cut ss row)
    taken_contents =
        cut-append (take i ss) (drop (i + 1) ss) (take at row) (drop (at + s.len) row) front
        ∙ sym
        (ap (without (λ j. same j (text s.key))) around
        ∙ without_at (text s.key) _ (entry (text s.key) value) _ (gap_cut (text s.key) (take i ss) (drop (i + 1) ss) _ _ gap_here) refl)

    taken_ordered : ascending (slot_keys (take i ss ++ drop (i + 1) ss)) ≡ true
    taken_ordered =
        ap ascending (slot_keys-append (take i ss) (drop (i + 1) ss))
        ∙ ascending_removed (slot_keys (take i ss)) (text s.key) (slot_keys (drop (i + 1) ss)) (ap ascending (sym keyed) ∙ packed.ordered)

    taken_fills : lens (take i ss ++ drop (i + 1) ss) ≡ length (take at row ++ drop (at + s.len) row)
    taken_fills =
        lens-append (take i ss) (drop (i + 1) ss)
        ∙ omega (
          arith,
          is,
          sums,
          front,
          packed.fills,
          length-append (take at row) (drop (at + s.len) row),
          length-drop (at + s.len) row,
        )

    pub take_out :
        (ss' : List Slot) (row' : Bytes)
        → ss' ≡ take i ss ++ drop (i + 1) ss
        → row' ≡ take at row ++ drop (at + s.len) row
        → Packed ss' row' × (cut ss' row' ≡ without (λ j. same j (text s.key)) (cut ss row))
    take_out ss' row' e f = (
      record { ordered = ap (λ (x : List Slot). ascending (slot_keys x)) e ∙ taken_ordered; fills = ap lens e ∙ taken_fills ∙ ap length (sym f) },
      ap (λ (x : List Slot). cut x row') e ∙ ap (cut (take i ss ++ drop (i + 1) ss)) f ∙ taken_contents,
    )

-- what is found in slots and row behind references
pub found-behind : (ss xs : List Slot) (row ys : Bytes) (k : Bytes) (o : Option Bytes) → xs ≡ ss → ys ≡ row → o ≡ found k (cut xs ys) → found k (cut ss row) ≡ o
found-behind ss xs row ys k o e f h =
    sym (h ∙ ap (λ (x : List Slot). found k (cut x ys)) e ∙ ap (λ (x : Bytes). found k (cut ss x)) f)
