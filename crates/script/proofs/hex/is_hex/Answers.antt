use Rattle.std.proofs.Common.{◌≡◌, ◌%◌, ◌&&◌, eqb, length, ap, ◌∙◌, sym, rules}
use borrow.Author.Tests.{tests}
use Rattle.std.specs.List.{list_all}
use Rattle.std.proofs.lemmas.Iterator.{YieldsList-from_slice}
use Rattle.std.proofs.lemmas.Iterator.Search.{all_from_yields_List}
use Rattle.script.specs.Hex.{is_digit, is_hex}
use Rattle.script.proofs.hex.is_hex.Goals as goal

pub returns-then-all : goal.returns-then-all
unfolding is_hex
returns-then-all c =
    let t = c.args.text.now in
    let e : c.all.result ≡ list_all is_digit t = all_from_yields_List is_digit _ _ _ c.all.ensures.ran (YieldsList-from_slice t cc) (λ x b q k. search (rules, tests)) in
    ap (λ b. b && eqb (length t % 2) 0) (sym c.if-all.true ∙ e)

pub returns-else-all : goal.returns-else-all
unfolding is_hex
returns-else-all c =
    let t = c.args.text.now in
    let e : c.all.result ≡ list_all is_digit t = all_from_yields_List is_digit _ _ _ c.all.ensures.ran (YieldsList-from_slice t cc) (λ x b q k. search (rules, tests)) in
    c.if-all.false ∙ ap (λ b. b && eqb (length t % 2) 0) (sym c.if-all.false ∙ e)
