use Rattle.std.proofs.Common.{◌+◌, length, None, ap, ◌∙◌, arith}
use lib.Seq.{paste}
use Rattle.ranges.specs.declared.byte_range.ByteRange.TheVariants.{FromStart}
use Rattle.ranges.specs.Ranges.{Bytes}
use Rattle.extraction.proofs.Items.{length-items_more, length-items-take, items_all, copied_more}
use Rattle.ranges.proofs.Writes.{fronted_from_paste}
use Rattle.extraction.proofs.copy_ranges.Goals as goal

pub copy_range-at-requires : goal.copy_range-at-requires
copy_range-at-requires c =
    let b = c.args.bytes.now in
    let rs = c.args.ranges.now in
    let i = c.loop-range.range-index in
    let m = length-items_more b rs i (FromStart 0 None) c.loop-range-test.true in
    let t = length-items-take b rs (i + 1) in
    omega (arith, m, t, c.loop-range.invariant.0, c.requires, c.loop-range.auto.out)

pub loop-range-preserved : goal.loop-range-preserved
loop-range-preserved c =
    copied_more c.args.bytes.now c.args.ranges.now c.loop-range.range-index _ c.args.out.now _ _ _ _ c.loop-range-test.true
    c.loop-range.invariant.0 c.loop-range.invariant.1 c.copy_range-at.ensures.end c.copy_range-at.ensures.out

pub returns : goal.returns
returns c =
    let e = items_all c.args.bytes.now c.args.ranges.now c.loop-range.range-index c.loop-range-test.false in
    c.loop-range.invariant.1
    ∙ ap (λ (xs : Bytes). paste c.args.out.now 0 xs c.loop-range.at) e
    ∙ fronted_from_paste c.args.out.now _ c.loop-range.at (c.loop-range.invariant.0 ∙ ap length e)
