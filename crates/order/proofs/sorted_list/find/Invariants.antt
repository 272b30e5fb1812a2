use Rattle.std.proofs.Common.{◌≡◌, ◌≤◌, ◌-◌, length, Less}
use Rattle.std.specs.List.{AllWithin}
use Rattle.order.proofs.sorted_list.find.Given as goal

abbrev pub invariant-loop-i : goal.invariant-loop-i
invariant-loop-i g l = (length l.yielded ≤ l.len) × AllWithin (λ y. g.T.TotalOrder.compared l.x y ≡ Less) l.items (l.len - length l.yielded) l.len
