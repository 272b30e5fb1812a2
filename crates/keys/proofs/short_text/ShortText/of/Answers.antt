use Rattle.keys.specs.Padded.{laid_short}
use Rattle.keys.proofs.short_text.ShortText.of.Goals as goal

pub invariant_of-result : goal.invariant_of-result
invariant_of-result g c = laid_short g.row.N c.args.front.now c.args.back.now c.lay.new.out c.requires c.lay.ensures
