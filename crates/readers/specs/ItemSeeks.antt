-- One item, for the functions below the extraction.
--   item_seek r                 the seek that reaches its first byte
--   start_given                 the answer to that seek, by where the item starts
--   item_left r n p a           where the answer a leaves a reader that was at p, in a value of n bytes
use Rattle.std.specs.Prelude.{ℕ, ◌+◌, ◌^◌, cond, pos, neg_ℤ, Some, None, Ok, Err, Option, Result, nat_lt}
use Rattle.std.specs.Option.{unwrap_or}
use Rattle.ranges.specs.Ranges.{start_of}
use Rattle.ranges.specs.declared.byte_range.ByteRange.{ByteRange}
use Rattle.ranges.specs.declared.byte_range.ByteRange.TheVariants.{FromStart, Suffix}
use Rattle.readers.specs.declared.reader_fault.ReadCause.TheVariants as cause
use Rattle.readers.specs.declared.reader_fault.ReaderFault.{ReaderFault}
use Rattle.readers.specs.declared.seek_from.SeekFrom.{SeekFrom}
use Rattle.readers.specs.declared.seek_from.SeekFrom.TheVariants.{Start, End}
use Rattle.readers.specs.ReaderFaults.{refused}

abbrev pub item_seek : ByteRange → Result SeekFrom ReaderFault
item_seek (FromStart o l) = Ok (Start o)
item_seek (Suffix l) = cond (nat_lt l (2 ^ 63)) (Ok (End (neg_ℤ (pos l)))) (Err (refused cause.Seek))

abbrev pub start_given : Option ℕ → Result ℕ ReaderFault
start_given (Some s) = Ok s
start_given None = Err (refused cause.Seek)

abbrev pub item_left : ByteRange → ℕ → ℕ → Result ℕ ReaderFault → ℕ
item_left r n p (Ok len) = unwrap_or (start_of r n) 0 + len
item_left r n p (Err f) = unwrap_or (start_of r n) p
