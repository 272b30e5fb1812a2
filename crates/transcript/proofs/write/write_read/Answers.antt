use Rattle.std.proofs.Common.{rules, append_assoc}
use Rattle.transcript.specs.Written.{written}
use Rattle.transcript.proofs.RoundTrip.{read_back}
use Rattle.transcript.proofs.write.write_read.Goals as goal

pub returns : goal.returns
unfolding written
returns c = search (rules, append_assoc, read_back)
