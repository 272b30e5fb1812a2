-- What a table of keys and values means, and what its calls leave.
use Rattle.std.specs.Prelude.{◌≡◌, ℕ, ◌≤◌, Bool, cond, ◌&&◌, length, take, Some, None, Ok, Err, vec_items, Option, Result, nat_le}
use Rattle.keys.specs.Text.{Bytes}
use Rattle.storage.specs.Contents.{Contents, total, put}
use Rattle.storage.specs.Faults.{own}
use Rattle.storage.specs.declared.fault.Fault.{Fault}
use Rattle.storage.specs.declared.fault.Cause.TheVariants.{Full}
use Rattle.memory_store.specs.declared.table.Table.{Table}
use Rattle.memory_store.specs.Slots.{cut}

abbrev pub tabled : Table → Contents
tabled t = cut (vec_items t.slots) (vec_items t.row)

-- at most 64 keys and 32,768 value bytes
unfoldable pub room : Contents → Bool
room c = nat_le (length c) 64 && nat_le (total c) 32768

-- the value is put under k exactly if there is room for it; else the refusal is 8, and all is as it was
pub record Replaced (r : Result (Unit {0}) Fault) (k v : Bytes) (t t' : Table) : Type 0 where
  pub answer : r ≡ cond (room (put k v (tabled t))) (Ok tt) (Err (own Full))
  pub contents : tabled t' ≡ cond (room (put k v (tabled t))) (put k v (tabled t)) (tabled t)

-- the value that was found stands at the front of the buffer, with its length
abbrev pub Kept : Option ℕ → Option Bytes → Bytes → Type 0
Kept None v out = v ≡ None
Kept (Some n) v out = (v ≡ Some (take n out)) × (n ≤ 32768)
