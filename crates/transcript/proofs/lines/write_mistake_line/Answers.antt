use Rattle.std.proofs.Common.{rules, append_assoc}
use Rattle.transcript.specs.Answers.{mistake_line}
use Rattle.transcript.proofs.lines.write_mistake_line.Goals as goal

pub returns : goal.returns
unfolding mistake_line
returns c = search (rules, append_assoc)
