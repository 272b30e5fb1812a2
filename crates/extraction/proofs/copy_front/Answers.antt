use Rattle.std.proofs.Common.{refl, ◌∙◌}
use Rattle.ranges.specs.Ranges.{picked}
use Rattle.ranges.proofs.Writes.{fronted_from_paste}
use Rattle.extraction.proofs.copy_front.Goals as goal

pub returns : goal.returns
returns c = c.copy_range-end.ensures.out ∙ fronted_from_paste c.args.out.now (picked c.args.bytes.now c.args.range) _ refl
