-- Whether there is room for a value, by the lengths at hand.
use Rattle.std.specs.Prelude.{◌≡◌, ℕ, ◌+◌, ◌<◌, ◌≤◌, true, false, List, length, Some, None, nat_le, slice_index_or, refl}
use Rattle.std.proofs.Common.{sym, ◌∙◌, ap, arith}
use Rattle.std.proofs.lemmas.Bool.{and_from, and_left, and_right, le-leb, lt-leb}
use Rattle.keys.specs.Text.{Bytes}
use Rattle.keys.specs.StoreKeys.{text}
use Rattle.storage.specs.Contents.{Contents, found, put, total, Ascending, ascending}
use Rattle.storage.proofs.Sizes.{put_absent, put_present}
use Rattle.memory_store.specs.declared.slot.Slot.{Slot}
use Rattle.memory_store.specs.Slots.{cut, Packed}
use Rattle.memory_store.specs.Tables.{room}
use Rattle.memory_store.specs.Cuts.{keys_of-cut, length_cut, total-cut}
use Rattle.memory_store.specs.TablesLemmas.{found_there, sized}

pub roomy : (c : Contents) → length c ≤ 64 → total c ≤ 32768 → room c ≡ true
unfolding room
roomy c h k = and_from (nat_le (length c) 64) (nat_le (total c) 32768) (le-leb (length c) 64 h) (le-leb (total c) 32768 k)

pub many : (c : Contents) → 64 < length c → room c ≡ false
unfolding room
many c h = and_left (nat_le (length c) 64) (nat_le (total c) 32768) (lt-leb (length c) 64 h)

pub large : (c : Contents) → 32768 < total c → room c ≡ false
unfolding room
large c h = and_right (nat_le (length c) 64) (nat_le (total c) 32768) (lt-leb (total c) 32768 h)

module _ (ss : List Slot) (row : Bytes) (packed : Packed ss row) where
  pub ordered : Ascending (cut ss row)
  ordered = ap ascending (keys_of-cut ss row) ∙ packed.ordered

  pub whole : total (cut ss row) ≡ length row
  whole = total-cut ss row (omega (arith, packed.fills)) ∙ packed.fills

  pub sizes_absent : (k v : Bytes) → found k (cut ss row) ≡ None → (length (put k v (cut ss row)) ≡ length ss + 1) × (total (put k v (cut ss row)) ≡ length row + length v)
  sizes_absent k v n =
      let h = put_absent k v (cut ss row) ordered n in
      (omega (arith, h.0, length_cut ss row), omega (arith, h.1, whole))

  pub sizes-present :
      (k v b : Bytes) → found k (cut ss row) ≡ Some b → (length (put k v (cut ss row)) ≡ length ss) × (total (put k v (cut ss row)) + length b ≡ length row + length v)
  sizes-present k v b n =
      let h = put_present k v (cut ss row) b ordered n in
      (omega (arith, h.0, length_cut ss row), omega (arith, h.1, whole))

  -- the same, of the key of a slot
  pub sizes-at :
      (i : ℕ) (s d : Slot) (k v : Bytes)
      → i < length ss
      → s ≡ slice_index_or ss i d
      → text s.key ≡ k
      → (length (put k v (cut ss row)) ≡ length ss) × (total (put k v (cut ss row)) + s.len ≡ length row + length v)
  sizes-at i s d k v within here is =
      let there = ap (λ (x : Bytes). found x (cut ss row)) (sym is) ∙ found_there ss row i _ refl packed s d within here in
      let h = sizes-present k v _ there in
      (h.0, omega (arith, h.1, sized ss row i _ refl packed s d within here))
