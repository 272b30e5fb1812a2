-- Extraction of ranges from bytes: the bytes put end to end, a note for each range, and the questions before.
use Rattle.std.specs.Prelude.{ℕ, ◌+◌, cond, List, [], ◌∷◌, length, Option, Ok, Err}
use Rattle.std.specs.List.{flat_map}
use Rattle.ranges.specs.declared.byte_range.ByteRange.{ByteRange}
use Rattle.extraction.specs.Notes.{Note}
use Rattle.ranges.specs.Ranges.{Bytes, fitting, picked}
use Rattle.extraction.specs.declared.ExtractError.{ExtractError}
use Rattle.extraction.specs.declared.ExtractError.TheVariants.{TooMany, Unfit, Short}
use Rattle.ranges.specs.Refusals.{refusal, unfit, Refusal, first_no, few, all_fit, room}

-- what a refused extraction says
abbrev pub extract_refusal : ExtractError → Refusal
extract_refusal TooMany = refusal 6
extract_refusal (Unfit i e) = unfit i e.range e.size
extract_refusal Short = refusal 9

-- the picked bytes of the ranges, end to end
abbrev pub items : Bytes → List ByteRange → Bytes
items b rs = flat_map (picked b) rs

-- the note of a range whose bytes are put at a place: the bytes with their place, or the range fault
abbrev pub note_at : ℕ → Bytes → ByteRange → Note
note_at at b r =
    cond (fitting r (length b))
    (Ok (record { start = at; len = length (picked b r) }))
    (Err (record { range = r; size = length b }))

-- the notes of ranges whose bytes are put end to end from a place on
unfoldable pub notes_from : ℕ → Bytes → List ByteRange → List Note
notes_from at b [] = []
notes_from at b (r ∷ rs) = note_at at b r ∷ notes_from (at + length (picked b r)) b rs

-- the questions about ranges of n bytes
abbrev pub ranges_no : ℕ → List ByteRange → Option Refusal
ranges_no n rs = first_no (few rs ∷ all_fit n 0 rs ∷ [])

-- the questions of an extraction of one range, into room for that many bytes
abbrev pub one_no : Bytes → ByteRange → ℕ → Option Refusal
one_no b r space = first_no (all_fit (length b) 0 (r ∷ []) ∷ room space (length (picked b r)) ∷ [])

-- the questions of an extraction without notes, into room for that many bytes
abbrev pub concat_no : Bytes → List ByteRange → ℕ → Option Refusal
concat_no b rs space = first_no (few rs ∷ all_fit (length b) 0 rs ∷ room space (length (items b rs)) ∷ [])

-- the questions of an extraction with notes, into room for that many bytes and notes
abbrev pub extract_no : Bytes → List ByteRange → ℕ → ℕ → Option Refusal
extract_no b rs space notes =
    first_no (few rs ∷ all_fit (length b) 0 rs ∷ room space (length (items b rs)) ∷ room notes (length rs) ∷ [])

-- the questions of a reading that notes the ranges which do not fit
abbrev pub read_no : Bytes → List ByteRange → ℕ → ℕ → Option Refusal
read_no b rs space notes = first_no (few rs ∷ room space (length (items b rs)) ∷ room notes (length rs) ∷ [])
