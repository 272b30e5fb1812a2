use Rattle.std.proofs.Common.{◌+◌, ◌^◌, ◌≤◌, length, None, sym, ap, ◌∙◌, arith}
use Rattle.ranges.specs.declared.byte_range.ByteRange.TheVariants.{FromStart}
use Rattle.extraction.specs.Extracts.{items}
use Rattle.extraction.proofs.Items.{length-items_more, length-items-take, items_all}
use Rattle.ranges.proofs.Questions.{u64_past, u64_is}
use Rattle.extraction.proofs.picked_total.Goals as goal

pub returns-in_err-total : goal.returns-in_err-total
returns-in_err-total c =
    let b = c.args.bytes.now in
    let rs = c.args.ranges.now in
    let i = c.loop-range.range-index in
    let m = length-items_more b rs i (FromStart 0 None) c.loop-range-test.true in
    let t = length-items-take b rs (i + 1) in
    let h : 2 ^ 64 ≤ length (items b rs) = omega (arith, m, t, c.loop-range.invariant.0, c.picked_len.ensures, c.in_err-total.ensures) in
    c.from_residual.ensures ∙ sym (u64_past _ h)

pub loop-range-preserved : goal.loop-range-preserved
loop-range-preserved c =
    let m = length-items_more c.args.bytes.now c.args.ranges.now c.loop-range.range-index (FromStart 0 None) c.loop-range-test.true in
    let s = c.in_ok-total.ensures in
    (omega (arith, m, c.loop-range.invariant.0, c.picked_len.ensures, s.1), omega (arith, s.0, s.1))

pub returns : goal.returns
returns c =
    let e = ap length (items_all c.args.bytes.now c.args.ranges.now c.loop-range.range-index c.loop-range-test.false) in
    u64_is _ _ (c.loop-range.invariant.0 ∙ e) c.loop-range.invariant.1
