-- Refusals of readers.
--   read_number                 the number of a cause
--   refused_at i c, refused c   a refusal of the i-th item; of no item
--   from_store f                a store's fault as a reader's, held whole
--   first_of p q                the first no of two questions
--   unless_fault q x            the answer x, unless the question q was answered no
use Rattle.std.specs.Prelude.{ℕ, Some, None, Ok, Err, Option, Result}
use Rattle.storage.specs.declared.fault.Fault.{Fault}
use Rattle.readers.specs.declared.reader_fault.ReadCause.{ReadCause}
use Rattle.readers.specs.declared.reader_fault.ReadCause.TheVariants.{Absent, Limit, Short, Seek, End}
use Rattle.readers.specs.declared.reader_fault.ReaderFault.{ReaderFault}

abbrev pub read_number : ReadCause → ℕ
read_number Absent = 5
read_number Limit = 6
read_number Short = 9
read_number Seek = 13
read_number (End f) = 14

abbrev pub refused_at : ℕ → ReadCause → ReaderFault
refused_at i c = record { cause = c; index = i }

abbrev pub refused : ReadCause → ReaderFault
refused c = refused_at 0 c

abbrev pub from_store : Fault → ReaderFault
from_store f = refused (End f)

abbrev pub first_of : Option ReaderFault → Option ReaderFault → Option ReaderFault
first_of (Some f) q = Some f
first_of None q = q

abbrev pub unless_fault : {X : Type 0} → Option ReaderFault → X → Result X ReaderFault
unless_fault None x = Ok x
unless_fault (Some f) x = Err f
