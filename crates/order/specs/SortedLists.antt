-- The sorted list without repeats in the first n elements of a slice: what inserting into it leaves.
use Rattle.std.specs.Prelude.{◌≡◌, ℕ, ◌+◌, ◌-◌, ◌<◌, ◌≤◌, ◌⊎◌, List, ◌∷◌, ◌++◌, length, take, drop, Ok, Err, Result, slice_index_or}
use Rattle.std.specs.declared.cmp.Ordering.TheVariants.{Less, Greater}
use Rattle.std.specs.declared.cmp.Ordering.{Ordering}
use Rattle.std.specs.List.{ContainsAt as Has, AllWithin, between}
use Rattle.std.specs.List.Sorted.{IsStrictlySortedBy}
use Rattle.order.specs.declared.sorted_list.SortedListError.{SortedListError}
use Rattle.order.specs.declared.sorted_list.SortedListError.TheVariants.{Full}

-- the number of a refusal
abbrev pub list_fault : SortedListError → ℕ
list_fault Full = 9

-- the first m of `after` are the sorted list of the first n of `before` and x, and all behind them is as it was
pub record Holding {X : Type 0} (c : X → X → Ordering) (before : List X) (n : ℕ) (x : X) (after : List X) (m : ℕ) : Type 0 where
  pub ascends : IsStrictlySortedBy c (take m after)
  pub old : (y : X) → Has (take n before) y → Has (take m after) y
  pub new : Has (take m after) x
  pub only : (y : X) → Has (take m after) y → Has (take n before) y ⊎ (y ≡ x)
  pub rest : drop m after ≡ drop m before
  pub within : m ≤ length before
  pub repeated : Has (take n before) x → (m ≡ n) × (after ≡ before)
  pub added : (Has (take n before) x → ⊥) → m ≡ n + 1

-- what is left in memory, also where the first n were no sorted list: nothing has changed, or x stands at some place among the first n, and what stood from there on has moved up by one
abbrev pub Left : {X : Type 0} → List X → ℕ → X → List X → ℕ → Type 0
Left before n x after m = ((m ≡ n) × (after ≡ before)) ⊎ ((i : ℕ) × (i ≤ n) × (n < length before) × (m ≡ n + 1) × (after ≡ take i before ++ (x ∷ (between i n before ++ drop (n + 1) before))))

-- x put into the first n of `before`: accepted with the new number in use, or refused with all as it was, exactly where n passes the slice or a new element finds it full
abbrev pub Inserted : {X : Type 0} → (X → X → Ordering) → List X → ℕ → X → List X → Result ℕ SortedListError → Type 0
Inserted c before n x after (Ok m) = (n ≤ length before) × (IsStrictlySortedBy c (take n before) → Holding c before n x after m) × Left before n x after m
Inserted c before n x after (Err e) = (after ≡ before) × (length before ≤ n) × (n ≤ length before → IsStrictlySortedBy c (take n before) → Has (take n before) x → ⊥)

-- where x stands among the first n, or where it goes: it comes before all from there on, and after the one before
abbrev pub Placed : {X : Type 0} → (X → X → Ordering) → List X → ℕ → X → Result ℕ ℕ → Type 0
Placed c xs n x (Ok i) = (i < n) × (slice_index_or xs i x ≡ x)
Placed c xs n x (Err i) = (i ≤ n) × AllWithin (λ y. c x y ≡ Less) xs i n × (0 < i → c x (slice_index_or xs (i - 1) x) ≡ Greater)

-- x put at the place i among the first n, what stood from there on moved up by one; refused, with all as it was, where no place is left
abbrev pub Put : {X : Type 0} → List X → ℕ → ℕ → X → List X → Result ℕ SortedListError → Type 0
Put before i n x after (Ok m) = (m ≡ n + 1) × (n < length before) × (after ≡ take i before ++ (x ∷ (between i n before ++ drop (n + 1) before)))
Put before i n x after (Err e) = (n ≡ length before) × (after ≡ before)
