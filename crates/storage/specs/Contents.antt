-- What a store holds: keys with their values, in ascending order of the keys.
--   Entry, Contents            a key's text with its value; all of them
--   same, earlier, under       two texts are one; one comes before another; a key begins with a prefix
--   found k c                  the value under k, if it is stored
--   put k v c                  v under k, in place of the value there or at k's place in the order
--   without t c                the entries whose key fails the test t
--   moved a b c                a's value under b in place of the one there, and no longer under a
--   keys_of, total             the keys; the bytes of all values
--   Ascending, Sound           each key before those behind it; also lawful keys, and fewer than 2^63 keys and bytes
use Rattle.std.specs.Prelude.{◌≡◌, ℕ, ◌+◌, ◌^◌, ◌<◌, ◌≤◌, Bool, true, false, ◌&&◌, List, [], ◌∷◌, map, length, take, Some, None, Option}
use Rattle.std.specs.Option.{option_map, unwrap_or}
use Rattle.std.specs.Ordering.{is_eq, is_lt}
use Rattle.keys.specs.Text.{Bytes, KeyText}
use Rattle.keys.specs.ByteOrder.{compare_bytes}

pub record Entry : Type 0 where
  pub key : Bytes
  pub value : Bytes

abbrev pub Contents : Type 0
Contents = List Entry

unfoldable pub same : Bytes → Bytes → Bool
same a b = is_eq (compare_bytes a b)

unfoldable pub earlier : Bytes → Bytes → Bool
earlier a b = is_lt (compare_bytes a b)

-- the key begins with the prefix
unfoldable pub under : Bytes → Bytes → Bool
under p k = same (take (length p) k) p

unfoldable pub found : Bytes → Contents → Option Bytes
found k [] = None
found k (e ∷ es) = elim (same k e.key) [ true ↦ Some e.value | false ↦ found k es ]

unfoldable pub put : Bytes → Bytes → Contents → Contents
put k v [] = record { key = k; value = v } ∷ []
put k v (e ∷ es) =
    elim (same k e.key) [
      | true ↦ record { key = k; value = v } ∷ es
      | false ↦ elim (earlier k e.key) [ true ↦ record { key = k; value = v } ∷ (e ∷ es) | false ↦ e ∷ put k v es ]
    ]

unfoldable pub without : (Bytes → Bool) → Contents → Contents
without t [] = []
without t (e ∷ es) = elim (t e.key) [ true ↦ without t es | false ↦ e ∷ without t es ]

unfoldable pub moved : Bytes → Bytes → Contents → Contents
moved a b c = elim (found a c) [ Some v ↦ put b v (without (λ k. same k a) c) | None ↦ c ]

abbrev pub keys_of : Contents → List Bytes
keys_of c = map (λ e. e.key) c

unfoldable pub total : Contents → ℕ
total [] = 0
total (e ∷ es) = length e.value + total es

-- the key comes before each of these
unfoldable pub all_after : Bytes → List Bytes → Bool
all_after k [] = true
all_after k (j ∷ js) = earlier k j && all_after k js

-- each of these comes before the key
unfoldable pub all_before : List Bytes → Bytes → Bool
all_before [] k = true
all_before (j ∷ js) k = earlier j k && all_before js k

-- the key's place in ascending keys: between these, which come before it, and those, which come after
pub record Gap (k : Bytes) (js ks : List Bytes) : Type 0 where
  pub below : all_before js k ≡ true
  pub above : all_after k ks ≡ true

unfoldable pub ascending : List Bytes → Bool
ascending [] = true
ascending (k ∷ ks) = all_after k ks && ascending ks

abbrev pub Ascending : Contents → Type 0
Ascending c = ascending (keys_of c) ≡ true

-- every stored key keeps the rule of keys, and its length
unfoldable pub Lawful : Contents → Type 0
Lawful [] = Unit {0}
Lawful (e ∷ es) = KeyText e.key × (length e.key ≤ 120) × Lawful es

-- what holds of the contents of every store
pub record Sound (c : Contents) : Type 0 where
  pub ascends : Ascending c
  pub lawful : Lawful c
  pub few : length c < 2 ^ 63
  pub small : total c < 2 ^ 63

-- a value that may be absent: its length, and its bytes, none if it is
abbrev pub sized : Option Bytes → Option ℕ
sized v = option_map length v

abbrev pub bytes_of : Option Bytes → Bytes
bytes_of v = unwrap_or v []
