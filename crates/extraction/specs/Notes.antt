-- A note, what became of one range.
use Rattle.std.specs.Prelude.{ℕ, Ok, Result}
use Rattle.ranges.specs.declared.byte_range.InvalidByteRangeError.{InvalidByteRangeError}
use Rattle.extraction.specs.declared.Place.{Place}

-- the place of its bytes, or its fault
abbrev pub Note : Type 0
Note = Result Place InvalidByteRangeError

-- the note of n bytes at a place
abbrev pub placed : ℕ → ℕ → Note
placed at n = Ok (record { start = at; len = n })
