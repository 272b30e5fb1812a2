use Rattle.extraction.proofs.Picks.{noted_ok}
use Rattle.extraction.proofs.note_of.Goals as goal

pub returns : goal.returns
returns c = noted_ok c.args.bytes.now c.args.range c.args.start c.in_ok-part.part.now c.in_ok-part.ensures
