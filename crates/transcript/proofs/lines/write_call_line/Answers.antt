use Rattle.std.proofs.Common.{rules, append_assoc}
use Rattle.transcript.specs.Answers.{call_line}
use Rattle.transcript.proofs.lines.write_call_line.Goals as goal

pub returns : goal.returns
unfolding call_line
returns c = search (rules, append_assoc)
