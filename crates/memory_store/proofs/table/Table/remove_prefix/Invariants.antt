use Rattle.std.proofs.Common.{◌≡◌, ◌≤◌, vec_items, vec_len}
use Rattle.keys.specs.StorePrefixes.{prefix_text}
use Rattle.storage.specs.Contents.{under, without}
use Rattle.memory_store.specs.Tables.{tabled}
use Rattle.memory_store.proofs.Removals.{NoneFrom}
use Rattle.memory_store.proofs.table.Table.remove_prefix.Given as goal

-- only keys with the prefix are gone, and none from `i` on has it
abbrev pub invariant-loop-i : goal.invariant-loop-i
invariant-loop-i l =
    (l.i ≤ vec_len l.self.slots)
    × (without (under (prefix_text l.prefix)) (tabled l.self) ≡ without (under (prefix_text l.prefix)) (tabled l.initial.self))
    × NoneFrom (under (prefix_text l.prefix)) (vec_items l.self.slots) l.i
