use Rattle.std.proofs.Common.{rules, append_assoc}
use Rattle.transcript.specs.Answers.{entry_line}
use Rattle.transcript.proofs.lines.write_entry_line.Goals as goal

pub returns : goal.returns
unfolding entry_line
returns c = search (rules, append_assoc)
