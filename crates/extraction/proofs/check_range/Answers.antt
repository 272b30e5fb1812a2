use Rattle.std.proofs.Common.{length, ap, arith}
use Rattle.extraction.proofs.Picks.{ok_only, picked_from_ok, one_told, one_short, one_yes}
use Rattle.extraction.proofs.check_range.Goals as goal

pub returns-in_err-n : goal.returns-in_err-n
returns-in_err-n c = one_told c.args.bytes.now c.args.range c.args.space c.in_err-n.field-0.0 c.from_residual.result c.in_err-n.ensures c.from_residual.ensures.1

pub returns-then-space-n : goal.returns-then-space-n
returns-then-space-n c =
    let p = ok_only _ _ _ _ c.in_ok-n.ensures in
    let e = ap length (picked_from_ok c.args.bytes.now c.args.range _ _ c.in_ok-n.ensures) in
    one_short c.args.bytes.now c.args.range c.args.space p.0 (omega (arith, e, c.if-space-n.true))

pub returns : goal.returns
returns c =
    let p = ok_only _ _ _ _ c.in_ok-n.ensures in
    let e = ap length (picked_from_ok c.args.bytes.now c.args.range _ _ c.in_ok-n.ensures) in
    one_yes c.args.bytes.now c.args.range c.args.space _ p.0 e c.if-space-n.false
