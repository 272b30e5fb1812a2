-- Extraction of ranges through a reader.
--   read_length r n             how many bytes of a value of n bytes are read for the range r
--   item_no                     the questions of one item: 13, 9, 14
--   first_refused               the first item that is refused, with its index
--   item_bytes, places_from     the bytes of items, end to end; their notes
--   items_read                  the items that were read
--   behind, left_at             where reading items leaves a reader; where it is left once one is refused
--   open_no                     the questions before the items: 6, 5, 13
--   Extracted                   what the call answers, and what output and notes hold then
--   extracted_at v rs n k p     where it leaves a reader of the value v that was at p, with room for n bytes and k notes
use Rattle.std.specs.Prelude.{◌≡◌, ℕ, ◌+◌, ◌-◌, ◌^◌, Bool, cond, not, ◌||◌, List, [], ◌∷◌, ◌++◌, length, take, Some, None, Err, Option, Result, nat_le, nat_lt, slice_index_or}
use Rattle.std.specs.List.{flat_map}
use Rattle.std.specs.Option.{unwrap_or}
use Rattle.keys.specs.Text.{Bytes}
use Rattle.ranges.specs.Buffers.{fronted}
use Rattle.ranges.specs.Ranges.{only_if, start_of, inside}
use Rattle.ranges.specs.declared.byte_range.ByteRange.{ByteRange}
use Rattle.ranges.specs.declared.byte_range.ByteRange.TheVariants.{FromStart, Suffix}
use Rattle.extraction.specs.Notes.{Note, placed}
use Rattle.storage.specs.Contents.{bytes_of}
use Rattle.readers.specs.declared.reader_fault.ReadCause.TheVariants as cause
use Rattle.readers.specs.declared.reader_fault.ReaderFault.{ReaderFault}
use Rattle.readers.specs.ReaderFaults.{refused, refused_at, first_of, unless_fault}
use Rattle.readers.specs.Readers.{read_no}

-- of a range to the end those from its offset on, or all n where that passes the end
abbrev pub read_length : ByteRange → ℕ → ℕ
read_length (FromStart o None) n = cond (nat_le o n) (n - o) n
read_length (FromStart o (Some l)) n = l
read_length (Suffix l) n = l

-- does the seek to its first byte finish from 0 on? 13; then the other questions
abbrev pub start_no : Option ℕ → (ℕ → Option ReaderFault) → Option ReaderFault
start_no None q = Some (refused cause.Seek)
start_no (Some s) q = q s

-- is there room for n bytes from a place on, and for a note? 9
abbrev pub place_no : ℕ → ℕ → Bool → ℕ → Option ReaderFault
place_no space at noted n = only_if (not noted || nat_lt space (at + n)) (refused cause.Short)

-- the questions of an item whose bytes are put at a place; has the reader that many bytes left? 14
abbrev pub item_no : Bytes → ℕ → ℕ → Bool → ByteRange → Option ReaderFault
item_no b space at noted r =
    start_no (start_of r (length b)) (λ s. first_of (place_no space at noted (read_length r (length b))) (read_no (Some b) s (read_length r (length b))))

abbrev pub item_bytes : Bytes → List ByteRange → Bytes
item_bytes b rs = flat_map (inside b) rs

-- of items behind those before them, in that much space and so many notes
unfoldable pub first_refused : Bytes → ℕ → ℕ → List ByteRange → List ByteRange → Option ReaderFault
first_refused b space notes before [] = None
first_refused b space notes before (r ∷ rs) =
    elim (item_no b space (length (item_bytes b before)) (nat_lt (length before) notes) r) [
      | Some f ↦ Some (refused_at (length before) f.cause)
      | None ↦ first_refused b space notes (before ++ r ∷ []) rs
    ]

-- the notes of items that are put end to end from a place on
unfoldable pub places_from : ℕ → Bytes → List ByteRange → List Note
places_from at b [] = []
places_from at b (r ∷ rs) = placed at (length (inside b r)) ∷ places_from (at + length (inside b r)) b rs

-- behind the last of the items that were read, or p where there is none
unfoldable pub behind : Bytes → ℕ → List ByteRange → ℕ
behind b p [] = p
behind b p (r ∷ rs) = behind b (unwrap_or (start_of r (length b)) 0 + length (inside b r)) rs

-- the items that were read: all, or those before the refused one
abbrev pub items_read : Option ReaderFault → List ByteRange → List ByteRange
items_read None rs = rs
items_read (Some f) rs = take f.index rs

-- behind the last item, or where the seek to the refused one put the reader; where that was refused, behind the one before
abbrev pub left_at : Bytes → Option ReaderFault → List ByteRange → ℕ
left_at b None rs = behind b (length b) rs
left_at b (Some f) rs = unwrap_or (start_of (slice_index_or rs f.index (FromStart 0 None)) (length b)) (behind b (length b) (take f.index rs))

-- the items of the value b, read in turn up to the refusal, if there is one: answer, output and notes
pub record ItemsRead (b : Bytes) (rs : List ByteRange) (stop : Option ReaderFault) (r : Result ℕ ReaderFault) (out out' : Bytes) (notes notes' : List Note) : Type 0 where
  pub answer : r ≡ unless_fault stop (length (item_bytes b rs))
  pub output : out' ≡ fronted (item_bytes b (items_read stop rs)) out
  pub noted : notes' ≡ fronted (places_from 0 b (items_read stop rs)) notes

-- has the value an end, below 2^63? 5, 13
abbrev pub end_no : Option Bytes → Option ReaderFault
end_no None = Some (refused cause.Absent)
end_no (Some b) = only_if (nat_le (2 ^ 63) (length b)) (refused cause.Seek)

-- at most 64 ranges? 6
abbrev pub open_no : Option Bytes → List ByteRange → Option ReaderFault
open_no v rs = first_of (only_if (nat_lt 64 (length rs)) (refused cause.Limit)) (end_no v)

-- refused before the items, all is as it was
abbrev pub ReadOrNot : Option ReaderFault → Bytes → List ByteRange → Result ℕ ReaderFault → Bytes → Bytes → List Note → List Note → Type 0
ReadOrNot (Some f) b rs r out out' notes notes' = (r ≡ Err f) × (out' ≡ out) × (notes' ≡ notes)
ReadOrNot None b rs r out out' notes notes' = ItemsRead b rs (first_refused b (length out) (length notes) [] rs) r out out' notes notes'

abbrev pub Extracted : Option Bytes → List ByteRange → Result ℕ ReaderFault → Bytes → Bytes → List Note → List Note → Type 0
Extracted v rs r out out' notes notes' = ReadOrNot (open_no v rs) (bytes_of v) rs r out out' notes notes'

abbrev pub place_after : Option ReaderFault → Bytes → List ByteRange → ℕ → ℕ → ℕ → ℕ
place_after (Some f) b rs space notes p = p
place_after None b rs space notes p = left_at b (first_refused b space notes [] rs) rs

abbrev pub extracted_at : Option Bytes → List ByteRange → ℕ → ℕ → ℕ → ℕ
extracted_at v rs space notes p = place_after (open_no v rs) (bytes_of v) rs space notes p
