use Rattle.std.proofs.Common.{sym, ap, ◌∙◌}
use Rattle.std.proofs.lemmas.Result.{err_from_is_err_and}
use Rattle.script.specs.Commands.{wrong, value_says}
use Rattle.script.proofs.Lines.{label_there, label_missing}
use Rattle.script.proofs.command.parse_export.Goals as goal

pub returns-in_err-label : goal.returns-in_err-label
returns-in_err-label c =
    let p = err_from_is_err_and c.from_residual.result c.from_residual.ensures.1 in
    rw (p.1, p.2) (ap wrong c.in_err-label.ensures.1 ∙ sym (label_missing c.args.text.now value_says c.in_err-label.ensures.0))

pub returns-in_err-value : goal.returns-in_err-value
returns-in_err-value c =
    let p = err_from_is_err_and c.from_residual-in_err-value.result c.from_residual-in_err-value.ensures.1 in
    let h = c.in_ok-label.ensures in
    rw (p.1, p.2) (sym (label_there c.args.text.now c.in_ok-label.label.now c.in_ok-label.rest.now value_says h.0 h.1 h.2 ∙ c.in_err-value.ensures c.in_ok-label.label.now))

pub returns : goal.returns
returns c =
    let h = c.in_ok-label.ensures in
    sym (label_there c.args.text.now c.in_ok-label.label.now c.in_ok-label.rest.now value_says h.0 h.1 h.2 ∙ c.in_ok-value.ensures c.in_ok-label.label.now)
