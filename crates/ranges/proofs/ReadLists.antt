-- Read lists: what the sorted insertion says of their ranges.
use Rattle.std.proofs.Common.{◌≡◌, ℕ, ◌<◌, ◌≤◌, List, length, take, Ok, Err, refl, ap, ◌∙◌, arith}
use Rattle.std.specs.List.Sorted.{IsStrictlySortedBy}
use Rattle.std.specs.List.{ContainsAt as Has}
use Rattle.std.proofs.lemmas.List.{length-take-le}
use Rattle.order.specs.SortedLists.{Holding, Inserted, list_fault}
use Rattle.order.specs.declared.sorted_list.SortedListError.{SortedListError}
use Rattle.order.specs.declared.sorted_list.SortedListError.TheVariants.{Full}
use Rattle.ranges.specs.declared.byte_range.ByteRange.{ByteRange}
use Rattle.ranges.specs.Orders.{compare_ranges}
use Rattle.ranges.specs.ReadLists.{Joined, Added}

number_nine : (e : SortedListError) → list_fault e ≡ 9
number_nine Full = refl

module _ (before after : List ByteRange) (n : ℕ) (x : ByteRange) (sized : length before ≡ 64) (within : n ≤ 64) (ascends : IsStrictlySortedBy compare_ranges (take n before)) where
  long : length (take n before) ≡ n
  long = length-take-le n before (omega arith)

  pub held : (m : ℕ) → Inserted compare_ranges before n x after (Ok m) → Holding compare_ranges before n x after m
  held m i = i.1 ascends

  pub joined_from : (m : ℕ) → Inserted compare_ranges before n x after (Ok m) → Joined (take n before) x (take m after) × ((Has (take n before) x → ⊥) → length (take n before) < 64)
  joined_from m i =
      let h = held m i in (
        record {
          ascends = h.ascends;
          old = h.old;
          new = h.new;
          only = h.only;
          repeated = λ has. let p = h.repeated has in ap (λ (k : ℕ). take k after) p.0 ∙ ap (take n) p.1;
        },
        λ no. omega (arith, h.added no, h.within, long, sized),
      )

  pub refused_from : (e : SortedListError) → Inserted compare_ranges before n x after (Err e) → Added (take n before) x (take n after) (Err e)
  refused_from e i = (number_nine e, ap (take n) i.0, omega (arith, i.1, long, sized), i.2 (omega arith) ascends)
