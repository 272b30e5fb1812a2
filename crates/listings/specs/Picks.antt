-- What a selection takes of the keys of a store, one by one and of all.
--   Chosen s p k t             of the key k, under the prefix p, the text t
--   Picks                      what `pick` answers
--   Gathered s p ks t          of one of the keys
--   Listing s p c              the texts that a selection lists of the contents
--   Counts                     one more row counted, but where it repeats the last
--   Puts                       one more row put among sorted ones
--   Counted, Spacious, Filled  how many texts there are; they find room; their rows at the front
use Rattle.std.specs.Prelude.{◌≡◌, ℕ, ◌+◌, ◌≤◌, ◌⊎◌, List, map, length, Some, None, Option, Result, ◌≢◌}
use Rattle.std.specs.Result.{result_unwrap_or}
use Rattle.std.specs.List.{ContainsAt as Has}
use Rattle.order.specs.SortedLists.{Inserted}
use Rattle.order.specs.declared.sorted_list.SortedListError.{SortedListError}
use Rattle.keys.specs.Rows.{compare_rows}
use Rattle.keys.specs.Text.{Bytes, Begins}
use Rattle.keys.specs.StorePrefixes.{prefix_text}
use Rattle.keys.specs.declared.row.Row.{Row}
use Rattle.keys.specs.declared.store_prefix.StorePrefix.{StorePrefix}
use Rattle.ranges.specs.Buffers.{fronted}
use Rattle.storage.specs.Contents.{Contents}
use Rattle.listings.specs.declared.pick.Selection.{Selection}
use Rattle.listings.specs.declared.pick.Selection.TheVariants.{Keys, KeysUnder, DirectKeys, Prefixes, Children}
use Rattle.listings.specs.declared.gather.Tally.{Tally}
use Rattle.listings.specs.Listings.{Beneath, Extends, Reserved, Stored, StoredUnder, DirectKey, ChildPrefix, Child, Exactly, row_for}

abbrev pub Chosen : Selection → Bytes → Bytes → Bytes → Type 0
Chosen Keys p k t = t ≡ k
Chosen KeysUnder p k t = (t ≡ k) × Begins k p
Chosen DirectKeys p k t = (t ≡ k) × Beneath p k
Chosen Prefixes p k t = Extends p k t
Chosen Children p k t = Extends p k t × (Reserved t → ⊥)

abbrev pub Picks : Selection → Bytes → Bytes → Option Row → Type 0
Picks s p k None = (t : Bytes) → Chosen s p k t → ⊥
Picks s p k (Some row) = (t : Bytes) × Chosen s p k t × (row ≡ row_for t)

abbrev pub Gathered : Selection → Bytes → List Bytes → Bytes → Type 0
Gathered s p ks t = (k : Bytes) × Has ks k × Chosen s p k t

-- the texts that a selection lists
abbrev pub Listing : Selection → Bytes → Contents → Bytes → Type 0
Listing Keys p c = Stored c
Listing KeysUnder p c = StoredUnder p c
Listing DirectKeys p c = DirectKey p c
Listing Prefixes p c = ChildPrefix p c
Listing Children p c = Child p c

-- the prefix that a key extends
abbrev pub ChildOf : Bytes → Bytes → Option StorePrefix → Type 0
ChildOf p k None = (t : Bytes) → Extends p k t → ⊥
ChildOf p k (Some q) = Extends p k (prefix_text q)

abbrev pub Counts : Tally → Option Row → Tally → Type 0
Counts a None b = b ≡ a
Counts a (Some row) b =
    ((a.last ≢ Some row) × (b.count ≡ a.count + 1) × (b.last ≡ Some row))
    ⊎ ((a.last ≡ Some row) × (b ≡ a))

abbrev pub Counted : (Bytes → Type 0) → ℕ → Type 0
Counted P n = (ts : List Bytes) × Exactly P ts × (n ≡ length ts)

-- a row that was picked, put among the first n, which are sorted without repeats
abbrev pub Puts : List Row → ℕ → Option Row → List Row → ℕ → Type 0
Puts before n None after m = (m ≡ n) × (after ≡ before)
Puts before n (Some row) after m = (r : Result ℕ SortedListError) × Inserted compare_rows before n row after r × (m ≡ result_unwrap_or r n)

abbrev pub Spacious : (Bytes → Type 0) → List Row → Type 0
Spacious P rows = (ts : List Bytes) × Exactly P ts × (length ts ≤ length rows)

abbrev pub Filled : (Bytes → Type 0) → List Row → List Row → Type 0
Filled P rows rows' = (ts : List Bytes) → Exactly P ts → rows' ≡ fronted (map row_for ts) rows
