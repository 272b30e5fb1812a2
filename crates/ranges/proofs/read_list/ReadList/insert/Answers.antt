use Rattle.std.proofs.Common.{◌∙◌, arith}
use Rattle.std.proofs.lemmas.Result.{err_from_is_err_and}
use Rattle.ranges.proofs.ReadLists.{held, joined_from, refused_from}
use Rattle.ranges.proofs.read_list.ReadList.insert.Goals as goal

pub returns-in_err-self : goal.returns-in_err-self
returns-in_err-self c =
    let l = c.args.self.now in
    let p = err_from_is_err_and c.from_residual.result c.from_residual.ensures.1 in
    rw p.1 (refused_from l.ranges c.insert_sorted.new.items l.len c.args.range l.sized l.within l.ascends p.0 c.in_err-self.ensures)

pub invariant_of-self-2 : goal.invariant_of-self-2
invariant_of-self-2 c =
    let l = c.args.self.now in
    let m = c.in_ok-self.field-0 in
    let h = held l.ranges c.insert_sorted.new.items l.len c.args.range l.sized l.within l.ascends m c.in_ok-self.ensures in
    record { sized = c.insert_sorted.auto.items ∙ l.sized; within = omega (arith, h.within, l.sized); ascends = h.ascends }

pub returns : goal.returns
returns c =
    let l = c.args.self.now in
    joined_from l.ranges c.insert_sorted.new.items l.len c.args.range l.sized l.within l.ascends c.in_ok-self.field-0 c.in_ok-self.ensures
