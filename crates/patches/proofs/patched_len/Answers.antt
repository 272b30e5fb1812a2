use Rattle.std.proofs.Common.{◌^◌, ◌≤◌, sym, ◌∙◌, arith}
use Rattle.patches.specs.Patches.{patched_length}
use Rattle.patches.proofs.Laying.{blank, patched_none, patched_more, patched_all, patched_end}
use Rattle.ranges.proofs.Questions.{u64_past, u64_is}
use Rattle.patches.proofs.patched_len.Goals as goal

pub loop-patch-init : goal.loop-patch-init
loop-patch-init c = (sym (patched_none c.args.old_len c.args.patches.now), omega arith)

pub returns-in_err-end : goal.returns-in_err-end
returns-in_err-end c =
    let n = c.args.old_len in
    let ps = c.args.patches.now in
    let h : 2 ^ 64 ≤ patched_length n ps = omega (arith, patched_end n ps c.loop-patch.patch-index blank c.loop-patch-test.true, c.in_err-end.ensures) in
    c.from_residual.ensures ∙ sym (u64_past _ h)

pub loop-patch-preserved : goal.loop-patch-preserved
loop-patch-preserved c =
    let m = patched_more c.args.old_len c.args.patches.now c.loop-patch.patch-index blank c.loop-patch-test.true in
    let s = c.in_ok-end.ensures in
    (omega (arith, m, s.1, c.max-n.ensures, c.loop-patch.invariant.0), omega (arith, c.max-n.type_inv))

pub returns : goal.returns
returns c = u64_is _ _ (c.loop-patch.invariant.0 ∙ patched_all c.args.old_len c.args.patches.now c.loop-patch.patch-index c.loop-patch-test.false) c.loop-patch.invariant.1
