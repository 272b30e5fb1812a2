-- Where an extraction from the value's bytes passes all its questions, one through a reader gives the same.
use Rattle.std.specs.Prelude.{◌≡◌, ℕ, List, length, None, Ok, Option, Result}
use Rattle.keys.specs.Text.{Bytes}
use Rattle.ranges.specs.Buffers.{fronted}
use Rattle.ranges.specs.declared.byte_range.ByteRange.{ByteRange}
use Rattle.extraction.specs.Extracts.{items, notes_from, extract_no}
use Rattle.extraction.specs.Notes.{Note}
use Rattle.storage.specs.Contents.{bytes_of}
use Rattle.readers.specs.declared.reader_fault.ReaderFault.{ReaderFault}
use Rattle.readers.specs.ReadSeek.{end_no}

-- what `extract_byte_ranges` answers and leaves, once its questions are passed
pub record AsExtracted (b : Bytes) (rs : List ByteRange) (r : Result ℕ ReaderFault) (out out' : Bytes) (notes notes' : List Note) : Type 0 where
  pub answer : r ≡ Ok (length (items b rs))
  pub output : out' ≡ fronted (items b rs) out
  pub noted : notes' ≡ fronted (notes_from 0 b rs) notes

abbrev pub Agrees : Option Bytes → List ByteRange → Result ℕ ReaderFault → Bytes → Bytes → List Note → List Note → Type 0
Agrees v rs r out out' notes notes' =
    end_no v ≡ None → extract_no (bytes_of v) rs (length out) (length notes) ≡ None → AsExtracted (bytes_of v) rs r out out' notes notes'
