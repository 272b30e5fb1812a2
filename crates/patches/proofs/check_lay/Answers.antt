use Rattle.std.proofs.Common.{rules}
use Rattle.patches.proofs.Laying.{same_questions}
use Rattle.patches.proofs.check_lay.Goals as goal

pub returns : goal.returns
returns c = let e = same_questions c.args.source.now c.args.patches.now c.args.old.now c.args.space in search rules
