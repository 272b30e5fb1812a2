use Rattle.readers.proofs.Turns.{Upto}
use Rattle.readers.proofs.read_seek.read_items.Given as goal

abbrev pub invariant-loop-i : goal.invariant-loop-i
invariant-loop-i g l = Upto g.R.Reader l.ranges l.i-counter l.at l.initial.reader l.reader l.initial.out l.out l.initial.notes l.notes
