-- What a reader's calls answer. A reader means a value or none, and a position.
--   seekable z                 z, if it is one of 0 to 2^63 - 1
--   shifted n d                the seek by d from n: 13 unless it starts and finishes there
--   sought size p from         the answer to a seek from position p, in a value of that size if there is one
--   reached p r                where the answer r to a seek leaves a reader that was at p
--   part_fault size p n        the store's fault of n bytes from p on that pass the end
--   read_no v p n              the refusal of a read of n bytes from p on, if there is one
--   read_part v p n            those bytes
--   advanced p n r             where the answer r to a read of n bytes leaves a reader that was at p
--   FilledBy                   what a read answers, and what its buffer holds then
use Rattle.std.specs.Prelude.{◌≡◌, ℕ, ◌+◌, ◌^◌, cond, ◌&&◌, length, take, drop, ℤ, pos, negsuc, ◌+ℤ◌, is_ok, Some, None, Ok, Err, Option, Result, nat_lt}
use Rattle.std.specs.Option.{ok_or}
use Rattle.keys.specs.Text.{Bytes}
use Rattle.ranges.specs.declared.byte_range.ByteRange.TheVariants.{FromStart}
use Rattle.ranges.specs.Ranges.{only_if}
use Rattle.storage.specs.Contents.{bytes_of}
use Rattle.storage.specs.Faults.{from_range}
use Rattle.storage.specs.declared.fault.Fault.{Fault}
use Rattle.readers.specs.declared.reader_fault.ReadCause.TheVariants as cause
use Rattle.readers.specs.declared.reader_fault.ReaderFault.{ReaderFault}
use Rattle.readers.specs.declared.seek_from.SeekFrom.{SeekFrom}
use Rattle.readers.specs.declared.seek_from.SeekFrom.TheVariants.{Start, End, Current}
use Rattle.readers.specs.ReaderFaults.{refused, from_store, unless_fault}

abbrev pub seekable : ℤ → Option ℕ
seekable (pos n) = only_if (nat_lt n (2 ^ 63)) n
seekable (negsuc n) = None

-- a seek by d from a place, where that is one
abbrev pub shifted_from : Option ℕ → ℤ → Result ℕ ReaderFault
shifted_from None d = Err (refused cause.Seek)
shifted_from (Some n) d = ok_or (seekable (pos n +ℤ d)) (refused cause.Seek)

abbrev pub shifted : ℕ → ℤ → Result ℕ ReaderFault
shifted n d = shifted_from (seekable (pos n)) d

-- from the start: every place. From the end: does the value exist? 5. From the current place or the end: 13
abbrev pub sought : Option ℕ → ℕ → SeekFrom → Result ℕ ReaderFault
sought size p (Start n) = Ok n
sought size p (Current d) = shifted p d
sought None p (End d) = Err (refused cause.Absent)
sought (Some n) p (End d) = shifted n d

abbrev pub reached : ℕ → Result ℕ ReaderFault → ℕ
reached p (Ok n) = n
reached p (Err f) = p

abbrev pub part_fault : ℕ → ℕ → ℕ → Fault
part_fault size p n = from_range (record { range = FromStart p (Some n); size = size })

-- a read of no bytes is never refused. Does the value exist? 5. Has the reader that many bytes left? 14, which holds the store's fault
abbrev pub read_no : Option Bytes → ℕ → ℕ → Option ReaderFault
read_no None p n = only_if (nat_lt 0 n) (refused cause.Absent)
read_no (Some b) p n = only_if (nat_lt 0 n && nat_lt (length b) (p + n)) (from_store (part_fault (length b) p n))

-- the n bytes from p on
abbrev pub read_part : Option Bytes → ℕ → ℕ → Bytes
read_part v p n = take n (drop p (bytes_of v))

-- where the answer r to a read of n bytes leaves a reader that was at p
abbrev pub advanced : ℕ → ℕ → Result (Unit {0}) ReaderFault → ℕ
advanced p n r = cond (is_ok r) (p + n) p

-- a read into a buffer: its answer, and what the buffer holds then
pub record FilledBy (v : Option Bytes) (p : ℕ) (r : Result (Unit {0}) ReaderFault) (out out' : Bytes) : Type 0 where
  pub answer : r ≡ unless_fault (read_no v p (length out)) tt
  pub output : out' ≡ cond (is_ok r) (read_part v p (length out)) out
