use Rattle.std.proofs.Common.{◌≤◌, ℕ, length, List, Result, Ok, Err, sym, subst, refl, inl, inr, arith}
use Rattle.order.specs.declared.sorted_list.SortedListError.{SortedListError}
use Rattle.order.specs.Orders.{Lawful}
use Rattle.order.specs.SortedLists.{Holding, Placed, Put, Inserted}
use Rattle.order.proofs.SortedLists.{absent_from_placed, holding_same, holding_added}
use Rattle.order.proofs.sorted_list.insert_sorted.Given as given
use Rattle.order.proofs.sorted_list.insert_sorted.Goals as goal

laws : (g : given.Over) → Lawful g.T.TotalOrder.compared
laws g = record { total = g.met.T.TotalOrder.total; transitive = g.met.T.TotalOrder.transitive; equal = g.met.T.TotalOrder.equal }

pub returns-in-Ok : goal.returns-in-Ok
returns-in-Ok g c = (
  omega arith,
  λ up. holding_same g.T.TotalOrder.compared c.args.items.now c.args.len c.in-Ok.field-0 c.args.x (omega arith) c.in-Ok.ensures.0 c.in-Ok.ensures.1 up,
  inl (refl, refl),
)

inserted : (g : given.Over) (s after : List g.row.T.Denot) (n i : ℕ) (x : g.row.T.Denot) (r : Result ℕ SortedListError) → n ≤ length s → Placed g.T.TotalOrder.compared s n x (Err i) → Put s i n x after r → Inserted g.T.TotalOrder.compared s n x after r
inserted g s after n i x (Ok m) l p (e, h, put) = (
  l,
  λ up. subst (λ k. Holding g.T.TotalOrder.compared s n x after k) (sym e) (holding_added (laws g) s n i x l p up after h put),
  inr (i, p.0, h, e, put),
)
inserted g s after n i x (Err e) l p (h, same) = (
  same,
  omega arith,
  λ k up. absent_from_placed (laws g) s n i x l p up,
)

pub returns-in-Err : goal.returns-in-Err
returns-in-Err g c = inserted g c.args.items.now c.put.new.items c.args.len c.in-Err.place c.args.x c.put.result (omega arith) c.in-Err.ensures c.put.ensures
