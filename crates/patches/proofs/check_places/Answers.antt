use Rattle.std.proofs.Common.{sym}
use Rattle.ranges.proofs.Questions.{bad_more, bad_stops, bad_all, unless_no, unless_yes}
use Rattle.patches.proofs.check_places.Goals as goal

pub returns-then-not-lies_in : goal.returns-then-not-lies_in
returns-then-not-lies_in c = unless_no _ _ tt (bad_stops _ _ _ _ _ c.loop-i-test.true (sym c.if-not-lies_in.ensures) c.loop-i.invariant)

pub loop-i-preserved : goal.loop-i-preserved
loop-i-preserved c = bad_more _ _ _ _ _ c.loop-i-test.true (sym c.if-not-lies_in.ensures) c.loop-i.invariant

pub returns : goal.returns
returns c = unless_yes _ tt (bad_all _ _ _ _ c.loop-i-test.false c.loop-i.invariant)
