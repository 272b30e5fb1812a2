use Rattle.std.proofs.Common.{◌<◌, arith}
use Rattle.std.proofs.ByRecursion.{All-from_get_or}
use Rattle.transcript.proofs.ReadBack.{value_back}
use Rattle.transcript.proofs.write.write_value.Goals as goal

pub returns : goal.returns
returns c = record {
  writes = c.put_value.ensures;
  back = value_back c.args.bytes.now (All-from_get_or (λ b. b < 256) c.args.bytes.now 0 (λ i _. omega (arith, c.type_inv.bytes i)));
}
