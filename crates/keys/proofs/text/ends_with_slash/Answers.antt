use Rattle.std.proofs.Common.{length, drop, ◌-◌, [], ◌∷◌}
use Rattle.keys.specs.Texts.{ends_decides}
use Rattle.keys.proofs.text.ends_with_slash.Goals as goal
use Rattle.std.proofs.lemmas.Slice.Eq.{bytes_eq-Decides}
use Rattle.std.proofs.lemmas.Bool.Decides.{Decides-at}

pub returns : goal.returns
returns c = ends_decides c.args.text.now c.ends_with.result (Decides-at _ _ c.ends_with.ensures.value (bytes_eq-Decides (47 ∷ []) (drop (length c.args.text.now - 1) c.args.text.now)))
