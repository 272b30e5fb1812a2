-- What a read list means: its ranges, in order, and what adding one does.
use Rattle.std.specs.Prelude.{◌≡◌, ◌<◌, ◌⊎◌, List, length, take, Ok, Err, Result}
use Rattle.std.specs.List.Sorted.{IsStrictlySortedBy}
use Rattle.std.specs.List.{ContainsAt as Has}
use Rattle.order.specs.SortedLists.{list_fault}
use Rattle.order.specs.declared.sorted_list.SortedListError.{SortedListError}
use Rattle.ranges.specs.declared.byte_range.ByteRange.{ByteRange}
use Rattle.ranges.specs.declared.read_list.ReadList.{ReadList}
use Rattle.ranges.specs.Orders.{compare_ranges}

-- the ranges in the list
abbrev pub reads : ReadList → List ByteRange
reads l = take l.len l.ranges

-- the sorted list of the old ranges and one more
pub record Joined (before : List ByteRange) (r : ByteRange) (after : List ByteRange) : Type 0 where
  pub ascends : IsStrictlySortedBy compare_ranges after
  pub old : (q : ByteRange) → Has before q → Has after q
  pub new : Has after r
  pub only : (q : ByteRange) → Has after q → Has before q ⊎ (q ≡ r)
  pub repeated : Has before r → after ≡ before

-- a range added to a list: refused, with 9 and the list as it was, exactly where a new one finds 64 there
abbrev pub Added : List ByteRange → ByteRange → List ByteRange → Result (Unit {0}) SortedListError → Type 0
Added before r after (Ok _) = Joined before r after × ((Has before r → ⊥) → length before < 64)
Added before r after (Err e) = (list_fault e ≡ 9) × (after ≡ before) × (length before ≡ 64) × (Has before r → ⊥)
