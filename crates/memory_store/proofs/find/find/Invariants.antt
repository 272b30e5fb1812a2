use Rattle.std.proofs.Common.{◌≡◌, ◌-◌, ◌≤◌, true, length, take, drop}
use Rattle.keys.specs.StoreKeys.{text}
use Rattle.storage.specs.Contents.{all_before, all_after}
use Rattle.memory_store.specs.Slots.{slot_keys}
use Rattle.memory_store.proofs.find.find.Given as goal

-- the keys below `low` come before the key, and those from `high` on after it
abbrev pub invariant-loop-low : goal.invariant-loop-low
invariant-loop-low l =
    (l.low ≤ l.high)
    × (l.high ≤ length l.slots)
    × (all_before (slot_keys (take l.low l.slots)) (text l.key) ≡ true)
    × (all_after (text l.key) (slot_keys (drop l.high l.slots)) ≡ true)

abbrev pub decreases-loop-low : goal.decreases-loop-low
decreases-loop-low l = l.high - l.low
