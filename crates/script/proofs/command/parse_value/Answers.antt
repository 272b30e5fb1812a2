use Rattle.std.proofs.Common.{sym, subst}
use Rattle.script.specs.Commands.{ValueRead}
use Rattle.script.proofs.Lines.{value_missing, value_read_is}
use Rattle.script.proofs.command.parse_value.Goals as goal

pub returns-then-is_empty : goal.returns-then-is_empty
returns-then-is_empty c = λ l. value_missing c.args.text.now c.trim-text.result.now c.trim-text.ensures l (sym c.if-is_empty.ensures)

pub returns : goal.returns
returns c = subst (ValueRead c.args.text.now) (sym c.ok_or.ensures.value) (value_read_is c.args.text.now c.trim-text.result.now c.trim-text.ensures c.value_of.result (sym c.if-is_empty.ensures) c.value_of.ensures)
