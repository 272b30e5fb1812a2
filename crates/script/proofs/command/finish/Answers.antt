use Rattle.std.proofs.Common.{sym}
use Rattle.script.specs.Commands.{call_of}
use Rattle.script.proofs.Lines.{finish_done, finish_extra}
use Rattle.script.proofs.command.finish.Goals as goal

pub returns-then-is_empty : goal.returns-then-is_empty
returns-then-is_empty c = finish_done c.args.rest.now c.trim-rest.result.now c.trim-rest.ensures (call_of c.args.command) (sym c.if-is_empty.ensures)

pub returns : goal.returns
returns c = finish_extra c.args.rest.now c.trim-rest.result.now c.trim-rest.ensures (call_of c.args.command) (sym c.if-is_empty.ensures)
