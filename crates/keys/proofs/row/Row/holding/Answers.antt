use Rattle.std.proofs.Common.{refl}
use Rattle.keys.specs.Padded.{laid_one}
use Rattle.keys.specs.RowsLemmas.{row_of_padded}
use Rattle.keys.proofs.row.Row.holding.Goals as goal

pub returns : goal.returns
returns c = row_of_padded c.args.bytes.now _ refl (laid_one 121 c.args.bytes.now c.lay.new.out c.lay.ensures)
