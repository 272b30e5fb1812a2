use Rattle.std.proofs.lemmas.Bool.Decides.{Decides-like, not_from_Decides}
use Rattle.keys.specs.Texts.{final_slash, prefix_text_lem}
use Rattle.keys.proofs.text.keeps_prefix_rule.Goals as goal

pub returns-then-not-begins_with_slash : goal.returns-then-not-begins_with_slash
returns-then-not-begins_with_slash c =
    Decides-like
    c.final_is_slash.result
    (λ f. prefix_text_lem c.args.text.now f (not_from_Decides c.begins_with_slash.result c.begins_with_slash.ensures c.if-not-begins_with_slash.true))
    (final_slash c.args.text.now)
    c.final_is_slash.ensures
