use Rattle.std.proofs.Common.{length, take}
use Rattle.keys.specs.Texts.{begins_decides}
use Rattle.keys.proofs.text.begins_with.Goals as goal
use Rattle.std.proofs.lemmas.Bool.Decides.{Decides-eqb}
use Rattle.std.proofs.lemmas.Slice.Eq.{slice_eq-Decides}

pub returns : goal.returns
returns c =
    begins_decides
    c.args.text.now
    c.args.front.now
    c.starts_with.result
    (slice_eq-Decides Decides-eqb c.args.front.now (take (length c.args.front.now) c.args.text.now) c.starts_with.result c.starts_with.ensures.value)
