-- What a refusal says: its number, with the values that go with it.
use Rattle.std.specs.Prelude.{ℕ, ◌+◌, Bool, cond, List, [], ◌∷◌, length, Some, None, Ok, Err, Option, Result, nat_lt}
use Rattle.std.specs.Borrow.{Bor}
use Rattle.ranges.specs.declared.byte_range.ByteRange.{ByteRange}
use Rattle.ranges.specs.declared.byte_range.BoundsError.{BoundsError}
use Rattle.ranges.specs.declared.byte_range.BoundsError.TheVariants.{OutOfBounds}
use Rattle.ranges.specs.declared.byte_range.InvalidByteRangeError.{InvalidByteRangeError}
use Rattle.ranges.specs.Ranges.{only_if, fitting}

-- number, index of the item in a list (0 without one), and the range fault of number 4
pub record Refusal : Type 0 where
  pub number : ℕ
  pub index : ℕ
  pub fault : Option InvalidByteRangeError

-- a refusal by its number, at the i-th item
abbrev pub refusal_at : ℕ → ℕ → Refusal
refusal_at n i = record { number = n; index = i; fault = None }

-- a refusal by its number alone
abbrev pub refusal : ℕ → Refusal
refusal n = refusal_at n 0

-- number 4: the i-th range does not fit n bytes
abbrev pub unfit : ℕ → ByteRange → ℕ → Refusal
unfit i r n = record { number = 4; index = i; fault = Some (record { range = r; size = n }) }

abbrev pub bounds_refusal : BoundsError → Refusal
bounds_refusal OutOfBounds = refusal 6

abbrev pub range_refusal : InvalidByteRangeError → Refusal
range_refusal e = unfit 0 e.range e.size

-- a result with its error read as a refusal
abbrev pub told : {X E : Type 0} → (E → Refusal) → Result X E → Result X Refusal
told f (Ok x) = Ok x
told f (Err e) = Err (f e)

-- a result with what its reference points to
abbrev pub valued : {X E : Type 0} → Result (Bor X) E → Result X E
valued (Ok x) = Ok x.now
valued (Err e) = Err e

-- the answer, unless a question was answered no
abbrev pub unless : {X : Type 0} → Option Refusal → X → Result X Refusal
unless None x = Ok x
unless (Some e) x = Err e

-- of several questions the first no decides
abbrev pub first_no : List (Option Refusal) → Option Refusal
first_no [] = None
first_no (None ∷ qs) = first_no qs
first_no (Some e ∷ qs) = Some e

-- are there at most 64? 6
abbrev pub few : {X : Type 0} → List X → Option Refusal
few xs = only_if (nat_lt 64 (length xs)) (refusal 6)

-- the first item that fails a test, told with its index; the first of these has index i
unfoldable pub first_bad : {X : Type 0} → (X → Bool) → (ℕ → X → Refusal) → ℕ → List X → Option Refusal
first_bad good tell i [] = None
first_bad good tell i (x ∷ xs) = cond (good x) (first_bad good tell (i + 1) xs) (Some (tell i x))

-- does each range, from index i on, fit n bytes? 4, at the first that does not
abbrev pub all_fit : ℕ → ℕ → List ByteRange → Option Refusal
all_fit n i rs = first_bad (λ r. fitting r n) (λ j r. unfit j r n) i rs

-- is there room for that many? 9
abbrev pub room : ℕ → ℕ → Option Refusal
room have need = only_if (nat_lt have need) (refusal 9)
