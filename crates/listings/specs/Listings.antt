-- Listings: of which texts they are, and what they answer.
--   Exactly P ts, TheList P ts the texts ts ascend, once each, and are those of which P holds; and no other list is so
--   Stored, StoredUnder        a stored key; one that begins with a prefix
--   Beneath, DirectKey         a text that begins with a prefix and has no slash after it; a stored key that does
--   Extends, ChildPrefix       a prefix, a component and a slash, which a key begins with; which a stored key begins with
--   Reserved, Child            a component begins with two underscores; a child prefix of which none does
--   row_for                    the row of a text, with zeros behind it
--   Listed P                   what a listing of the texts of which P holds answers, and what its rows hold then
--   DirListed                  the same of a listing of keys and prefixes
--   size_under                 the bytes of the values under keys that begin with a prefix
use Rattle.std.specs.Prelude.{◌≡◌, ℕ, ◌<◌, cond, List, [], ◌∷◌, ◌++◌, map, length, is_ok, filter, Result}
use Rattle.std.specs.List.Sorted.{IsStrictlySortedBy}
use Rattle.std.specs.List.{ContainsAt as Has}
use Rattle.keys.specs.ByteOrder.{compare_bytes}
use Rattle.keys.specs.Text.{Bytes, slash, Begins, SlashFree, FinalSlash, Parent, padded}
use Rattle.keys.specs.declared.row.Row.{Row}
use Rattle.ranges.specs.Buffers.{fronted}
use Rattle.ranges.specs.Refusals.{first_no, room}
use Rattle.storage.specs.Contents.{Contents, keys_of, under, total}
use Rattle.storage.specs.Faults.{answered}
use Rattle.storage.specs.declared.fault.Fault.{Fault}
use Rattle.listings.specs.declared.listing.StoreKeysPrefixes.{StoreKeysPrefixes}

pub record Exactly (P : Bytes → Type 0) (ts : List Bytes) : Type 0 where
  pub ascends : IsStrictlySortedBy compare_bytes ts
  pub each : (t : Bytes) → Has ts t → P t
  pub all : (t : Bytes) → P t → Has ts t

pub record TheList (P : Bytes → Type 0) (ts : List Bytes) : Type 0 where
  pub exactly : Exactly P ts
  pub only : (us : List Bytes) → Exactly P us → us ≡ ts

-- all keys in the store
abbrev pub Stored : Contents → Bytes → Type 0
Stored c t = Has (keys_of c) t

-- all keys with a given prefix
abbrev pub StoredUnder : Bytes → Contents → Bytes → Type 0
StoredUnder p c t = Stored c t × Begins t p

-- with a given prefix, and no slash after the given prefix
abbrev pub Beneath : Bytes → Bytes → Type 0
Beneath p t = (rest : Bytes) × (t ≡ p ++ rest) × SlashFree rest

-- all keys with a given prefix and no slash after it
abbrev pub DirectKey : Bytes → Contents → Bytes → Type 0
DirectKey p c t = Stored c t × Beneath p t

-- t is p, a component (some bytes, no slash) and a slash, and the key k begins with it
abbrev pub Extends : Bytes → Bytes → Bytes → Type 0
Extends p k t = (component : Bytes) × (t ≡ p ++ (component ++ (slash ∷ []))) × (0 < length component) × SlashFree component × Begins k t

-- all prefixes with a given prefix and no slash after it but the closing one, which stored keys extend
abbrev pub ChildPrefix : Bytes → Contents → Bytes → Type 0
ChildPrefix p c t = (k : Bytes) × Stored c k × Extends p k t

-- the byte `_`
abbrev pub underscore : ℕ
underscore = 95

-- some component, one that begins the text or stands behind a slash, begins with two underscores
abbrev pub Reserved : Bytes → Type 0
Reserved t = (u : Bytes) × (v : Bytes) × (t ≡ u ++ (underscore ∷ underscore ∷ v)) × FinalSlash u

-- the child prefixes with no reserved component
abbrev pub Child : Bytes → Contents → Bytes → Type 0
Child p c t = ChildPrefix p c t × (Reserved t → ⊥)

abbrev pub row_for : Bytes → Row
row_for t = record { bytes = padded 121 t; len = length t }

-- how many there are, and their rows at the front, what is behind them as it was; 9, by the called layer itself, where there are fewer rows, which are then as they were
pub record Listed (P : Bytes → Type 0) (r : Result ℕ Fault) (rows rows' : List Row) : Type 0 where
  pub texts : List Bytes
  pub list : TheList P texts
  pub answer : r ≡ answered (room (length rows) (length texts)) (length texts)
  pub filled : rows' ≡ cond (is_ok r) (fronted (map row_for texts) rows) rows

-- the keys whose parent is the prefix p, and p's child prefixes; both buffers are asked before one is filled
pub record DirListed (p : Bytes) (c : Contents) (r : Result StoreKeysPrefixes Fault) (keys keys' prefixes prefixes' : List Row) : Type 0 where
  pub key_texts : List Bytes
  pub prefix_texts : List Bytes
  pub key_list : TheList (DirectKey p c) key_texts
  pub prefix_list : TheList (ChildPrefix p c) prefix_texts
  pub parents : (t : Bytes) → (Beneath p t → Parent t p) × (Parent t p → Beneath p t)
  pub answer : r ≡ answered (first_no (room (length keys) (length key_texts) ∷ room (length prefixes) (length prefix_texts) ∷ [])) (record { keys = length key_texts; prefixes = length prefix_texts })
  pub keys_filled : keys' ≡ cond (is_ok r) (fronted (map row_for key_texts) keys) keys
  pub prefixes_filled : prefixes' ≡ cond (is_ok r) (fronted (map row_for prefix_texts) prefixes) prefixes

abbrev pub size_under : Bytes → Contents → ℕ
size_under p c = total (filter (λ e. under p e.key) c)
