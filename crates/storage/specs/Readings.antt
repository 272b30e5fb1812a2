-- What readings answer.
--   deepened n r                      an answer whose refusal comes from n layers below
--   read_answer v rs space n          the answer to a reading of the ranges rs of the value v, which may be absent, into that much space and so many notes
--   read_bytes, read_notes            what it puts at the front of the output and of the notes
--   RangesRead, ValueRead, RangeRead  readings of ranges, of the whole value, of one range
use Rattle.std.specs.Prelude.{◌≡◌, ℕ, cond, List, [], length, is_ok, Some, None, Ok, Err, Option, Result}
use Rattle.keys.specs.Text.{Bytes}
use Rattle.ranges.specs.declared.byte_range.ByteRange.{ByteRange}
use Rattle.extraction.specs.Notes.{Note}
use Rattle.extraction.specs.Extracts.{items, notes_from, read_no}
use Rattle.ranges.specs.Buffers.{fronted}
use Rattle.ranges.specs.Ranges.{fitting, picked}
use Rattle.ranges.specs.Refusals.{few, room}
use Rattle.storage.specs.Contents.{bytes_of}
use Rattle.storage.specs.declared.fault.Fault.{Fault}
use Rattle.storage.specs.Faults.{raised_by, answered, from_range}

abbrev pub deepened : {A : Type 0} → ℕ → Result A Fault → Result A Fault
deepened n (Ok x) = Ok x
deepened n (Err f) = Err (raised_by n f)

-- at most 64 ranges, 6; then, where there is a value, room for what is read of it, 9
abbrev pub read_answer : Option Bytes → List ByteRange → ℕ → ℕ → Result (Option ℕ) Fault
read_answer None rs space notes = answered (few rs) None
read_answer (Some b) rs space notes = answered (read_no b rs space notes) (Some (length (items b rs)))

abbrev pub read_bytes : Option Bytes → List ByteRange → Bytes
read_bytes None rs = []
read_bytes (Some b) rs = items b rs

abbrev pub read_notes : Option Bytes → List ByteRange → List Note
read_notes None rs = []
read_notes (Some b) rs = notes_from 0 b rs

-- a reading of ranges of the value v through n layers: its answer, and what output and notes hold then
pub record RangesRead (n : ℕ) (v : Option Bytes) (rs : List ByteRange) (r : Result (Option ℕ) Fault) (out out' : Bytes) (notes notes' : List Note) : Type 0 where
  pub answer : r ≡ deepened n (read_answer v rs (length out) (length notes))
  pub output : out' ≡ cond (is_ok r) (fronted (read_bytes v rs) out) out
  pub noted : notes' ≡ cond (is_ok r) (fronted (read_notes v rs) notes) notes

-- the answer to a reading of the whole value into that much space: 9 where it is too short
abbrev pub value_answer : Option Bytes → ℕ → Result (Option ℕ) Fault
value_answer None space = Ok None
value_answer (Some b) space = answered (room space (length b)) (Some (length b))

pub record ValueRead (n : ℕ) (v : Option Bytes) (r : Result (Option ℕ) Fault) (out out' : Bytes) : Type 0 where
  pub answer : r ≡ deepened n (value_answer v (length out))
  pub output : out' ≡ cond (is_ok r) (fronted (bytes_of v) out) out

-- the answer to a reading of one range into that much space, through n layers: 4 where it does not fit, told by the reading itself; then 9 where the space is too short, told below
abbrev pub range_answer : ℕ → Option Bytes → ByteRange → ℕ → Result (Option ℕ) Fault
range_answer n None g space = Ok None
range_answer n (Some b) g space =
    cond (fitting g (length b))
    (deepened n (answered (room space (length (picked b g))) (Some (length (picked b g)))))
    (Err (from_range (record { range = g; size = length b })))

abbrev pub range_bytes : Option Bytes → ByteRange → Bytes
range_bytes None g = []
range_bytes (Some b) g = picked b g

pub record RangeRead (n : ℕ) (v : Option Bytes) (g : ByteRange) (r : Result (Option ℕ) Fault) (out out' : Bytes) : Type 0 where
  pub answer : r ≡ range_answer n v g (length out)
  pub output : out' ≡ cond (is_ok r) (fronted (range_bytes v g) out) out
