use Rattle.std.proofs.Common.{rules, append_assoc}
use Rattle.transcript.specs.Answers.{total_line}
use Rattle.transcript.proofs.lines.write_total_line.Goals as goal

pub returns : goal.returns
unfolding total_line
returns c = search (rules, append_assoc)
