use Rattle.std.proofs.Common.{◌≡◌, true, false, length, unwrap_or, rules, sym, ◌∙◌, ap, drop}
use borrow.Author.Tests.{tests}
use Rattle.std.proofs.lemmas.List.{take_rest}
use Rattle.std.proofs.lemmas.Iterator.{YieldsList-from_slice, IsFirst-from_position}
use Rattle.std.specs.List.{prefix_len}
use Rattle.script.specs.Words.{blank}
use Rattle.script.proofs.Blanks.{first_turned_away}
use Rattle.script.proofs.words.trim_start.Goals as goal

pub returns : goal.returns
returns c =
    let t = c.args.text.now in
    let e : prefix_len blank t ≡ unwrap_or c.position.result (length t) = first_turned_away blank t c.position.result (IsFirst-from_position _ _ _ (λ b. blank b ≡ false) (λ b. blank b ≡ true) c.position.ensures.ran (YieldsList-from_slice t cc) (λ x q k. search (rules, tests)) (λ x q k. search (rules, tests))) in
    take_rest t c.unwrap_or-start.result ∙ ap (λ n. drop n t) (c.unwrap_or-start.ensures ∙ sym e)
