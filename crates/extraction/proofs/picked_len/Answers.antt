use Rattle.std.proofs.Common.{length, sym, ap}
use Rattle.extraction.proofs.Picks.{picked_from_ok, picked_from_err}
use Rattle.extraction.proofs.picked_len.Goals as goal

pub returns-in-Err : goal.returns-in-Err
returns-in-Err c = sym (ap length (picked_from_err _ _ _ _ c.in-Err.ensures))

pub returns-in-Ok : goal.returns-in-Ok
returns-in-Ok c = ap length (picked_from_ok c.args.bytes.now c.args.range _ _ c.in-Ok.ensures)
