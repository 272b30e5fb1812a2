-- A part of a value, as bytes and stores give it.
--   part_of b p n               the n bytes of b from p on, or the store's fault
--   part_answer v p n           a store's answer, where the value v may be absent
--   part_filled v p out         what the buffer holds then
use Rattle.std.specs.Prelude.{ℕ, ◌+◌, cond, length, take, drop, Some, None, Ok, Err, Option, Result, nat_le}
use Rattle.keys.specs.Text.{Bytes}
use Rattle.storage.specs.declared.fault.Fault.{Fault}
use Rattle.readers.specs.Readers.{part_fault}

abbrev pub part_of : Bytes → ℕ → ℕ → Result Bytes Fault
part_of b p n = cond (nat_le (p + n) (length b)) (Ok (take n (drop p b))) (Err (part_fault (length b) p n))

abbrev pub part_answer : Option Bytes → ℕ → ℕ → Result (Option ℕ) Fault
part_answer None p n = Ok None
part_answer (Some b) p n = cond (nat_le (p + n) (length b)) (Ok (Some n)) (Err (part_fault (length b) p n))

abbrev pub part_filled : Option Bytes → ℕ → Bytes → Bytes
part_filled None p out = out
part_filled (Some b) p out = cond (nat_le (p + length out) (length b)) (take (length out) (drop p b)) out
