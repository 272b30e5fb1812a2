use Rattle.std.proofs.Common.{◌≡◌, ◌-◌, true, false, length, unwrap_or, rules, sym, ◌∙◌, ap, take, reverse}
use borrow.Author.Tests.{tests}
use Rattle.std.proofs.lemmas.List.{length-reverse}
use Rattle.std.proofs.lemmas.Iterator.{IsFirst-from_position}
use Rattle.std.proofs.lemmas.Iterator.Adapters.{YieldsList-from_rev_slice}
use Rattle.std.specs.List.{suffix_len}
use Rattle.script.specs.Words.{blank, trimmed_back, trimmed}
use Rattle.script.proofs.Blanks.{first_turned_away}
use Rattle.script.proofs.words.trim.Goals as goal

pub returns : goal.returns
unfolding trimmed
returns c =
    let t = c.trim_start-text.result.now in
    let e : suffix_len blank t ≡ unwrap_or c.position.result (length (reverse t)) = first_turned_away blank (reverse t) c.position.result (IsFirst-from_position _ _ _ (λ b. blank b ≡ false) (λ b. blank b ≡ true) c.position.ensures.ran (YieldsList-from_rev_slice t cc) (λ x q k. search (rules, tests)) (λ x q k. search (rules, tests))) in
    let n = c.unwrap_or-blanks.ensures ∙ (ap (unwrap_or c.position.result) (sym (length-reverse t)) ∙ sym e) in
    ap (λ m. take (length t - m) t) n ∙ ap trimmed_back c.trim_start-text.ensures
