-- Refusals: their numbers, where they come from, and how a layer passes one up.
use Rattle.std.specs.Prelude.{ℕ, ◌+◌, min, cond, Some, None, Ok, Err, Option, Result, ◌==◌}
use Rattle.keys.specs.StoreKeys.{key_fault}
use Rattle.keys.specs.declared.store_key.StoreKeyError.{StoreKeyError}
use Rattle.ranges.specs.declared.byte_range.InvalidByteRangeError.{InvalidByteRangeError}
use Rattle.ranges.specs.Refusals.{Refusal}
use Rattle.storage.specs.declared.fault.Cause.{Cause}
use Rattle.storage.specs.declared.fault.Cause.TheVariants as cause
use Rattle.storage.specs.declared.fault.Fault.{Fault}

-- the number of a cause
abbrev pub number : Cause → ℕ
number (cause.Key e) = key_fault e
number (cause.Range e) = 4
number cause.Absent = 5
number cause.Limit = 6
number cause.Exists = 7
number cause.Full = 8
number cause.Short = 9
number cause.Device = 10
number cause.Root = 12

-- a refusal by the called layer itself, of the i-th item, at no step
abbrev pub own_at : Cause → ℕ → Fault
own_at c i = record { cause = c; index = i; depth = 0; step = 0 }

-- the same, of no item
abbrev pub own : Cause → Fault
own c = own_at c 0

-- a refusal from n layers below, passed up: that much deeper, at most 65,535, and nothing else changed
abbrev pub raised_by : ℕ → Fault → Fault
raised_by n f = record { cause = f.cause; index = f.index; depth = min (f.depth + n) 65535; step = f.step }

-- the same from the layer right below
abbrev pub raised : Fault → Fault
raised f = raised_by 1 f

-- a refusal at a step of an export
abbrev pub at_step : ℕ → Fault → Fault
at_step n f = record { cause = f.cause; index = f.index; depth = f.depth; step = n }

-- a refusal of the i-th item
abbrev pub at_index : ℕ → Fault → Fault
at_index i f = record { cause = f.cause; index = i; depth = f.depth; step = f.step }

-- the refusals of keys, ranges and patches as a store's

abbrev pub from_key : StoreKeyError → Fault
from_key e = own (cause.Key e)

abbrev pub from_range : InvalidByteRangeError → Fault
from_range e = own (cause.Range e)

-- by number and index, a range fault held whole
abbrev pub fault_of : Refusal → Fault
fault_of q = own_at (elim q.fault [ Some e ↦ cause.Range e | None ↦ cond (q.number == 6) cause.Limit cause.Short ]) q.index

-- the answer, unless a question was answered no
abbrev pub answered : {A : Type 0} → Option Refusal → A → Result A Fault
answered None x = Ok x
answered (Some q) x = Err (fault_of q)
