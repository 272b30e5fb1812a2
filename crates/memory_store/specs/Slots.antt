-- Stored keys with the lengths of their values, and the packed row of those values.
--   slot_keys, lens            the keys' texts; the lengths added up
--   cut ss row                 the row cut by the lengths: each key with its value
use Rattle.std.specs.Prelude.{◌≡◌, ℕ, ◌+◌, ◌<◌, ◌≤◌, true, List, [], ◌∷◌, length, take, drop, Ok, Err, Result, slice_index_or}
use Rattle.keys.specs.Text.{Bytes}
use Rattle.keys.specs.StoreKeys.{text}
use Rattle.storage.specs.Contents.{Contents, ascending, Gap}
use Rattle.memory_store.specs.declared.slot.Slot.{Slot}

unfoldable pub slot_keys : List Slot → List Bytes
slot_keys [] = []
slot_keys (s ∷ ss) = text s.key ∷ slot_keys ss

unfoldable pub lens : List Slot → ℕ
lens [] = 0
lens (s ∷ ss) = s.len + lens ss

unfoldable pub cut : List Slot → Bytes → Contents
cut [] row = []
cut (s ∷ ss) row = record { key = text s.key; value = take s.len row } ∷ cut ss (drop s.len row)

-- the keys ascend, and the values fill the row
pub record Packed (ss : List Slot) (row : Bytes) : Type 0 where
  pub ordered : ascending (slot_keys ss) ≡ true
  pub fills : lens ss ≡ length row

-- k's place in the slots: between the first i and the others
abbrev pub GapAt : Bytes → ℕ → List Slot → Type 0
GapAt k i ss = Gap k (slot_keys (take i ss)) (slot_keys (drop i ss))

-- k is the key at i; or it is not there, and i is its place
abbrev pub Placed : Bytes → List Slot → Result ℕ ℕ → Type 0
Placed k ss (Ok i) = (i < length ss) × ((s : Slot) → s ≡ slice_index_or ss i s → text s.key ≡ k)
Placed k ss (Err i) = (i ≤ length ss) × GapAt k i ss
