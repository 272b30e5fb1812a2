use Rattle.std.proofs.Common.{rules}
use Rattle.std.proofs.lemmas.Bool.Decides.{Decides-like}
use Rattle.keys.specs.Texts.{final_from_ends, ends_from_final}
use Rattle.keys.proofs.text.final_is_slash.Goals as goal

pub returns-else-is_empty : goal.returns-else-is_empty
returns-else-is_empty c =
    Decides-like
    c.ends_with_slash.result
    (final_from_ends c.args.text.now)
    (ends_from_final c.args.text.now (search rules))
    c.ends_with_slash.ensures
