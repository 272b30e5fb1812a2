use Rattle.std.proofs.Common.{◌≡◌, true, false, length, unwrap_or, rules, sym, ◌∙◌, ap, take, drop}
use borrow.Author.Tests.{tests}
use Rattle.std.proofs.lemmas.Iterator.{YieldsList-from_slice, IsFirst-from_position}
use Rattle.std.specs.List.{prefix_len}
use Rattle.script.specs.Words.{plain, first_word, behind_word}
use Rattle.script.proofs.Blanks.{first_turned_away}
use Rattle.script.proofs.words.next_word.Goals as goal

pub returns : goal.returns
unfolding first_word behind_word
returns c =
    let t = c.trim_start-text.result.now in
    let e : prefix_len plain t ≡ unwrap_or c.position.result (length t) = first_turned_away plain t c.position.result (IsFirst-from_position _ _ _ (λ b. plain b ≡ false) (λ b. plain b ≡ true) c.position.ensures.ran (YieldsList-from_slice t cc) (λ x q k. search (rules, tests)) (λ x q k. search (rules, tests))) in
    let n = c.unwrap_or-end.ensures ∙ sym e in (
      c.split_at.ensures.front ∙ (ap (λ m. take m t) n ∙ ap (λ u. take (prefix_len plain u) u) c.trim_start-text.ensures),
      c.split_at.ensures.back ∙ (ap (λ m. drop m t) n ∙ ap (λ u. drop (prefix_len plain u) u) c.trim_start-text.ensures),
    )
