use Rattle.std.proofs.Common.{◌≤◌, length, take, sym, ap, ◌∙◌, arith}
use Rattle.std.proofs.lemmas.List.{length-take-le}
use Rattle.ranges.specs.Ranges.{Bytes}
use Rattle.ranges.specs.Buffers.{fronted}
use Rattle.patches.proofs.Laying.{blank, place_at, patched_end, patched_old, laid_none, laid_all_lem, fronted-take, laid_in_turn}
use Rattle.patches.proofs.lay_all.Goals as goal

pub loop-patch-init : goal.loop-patch-init
loop-patch-init c =
    let n = c.args.old_len in
    let work = c.args.work.now in
    let le : n ≤ length work = omega (arith, patched_old n c.args.patches.now, c.requires.space) in
    let e = laid_none c.args.source.now c.args.patches.now (take n work) in (
      sym (ap length e ∙ length-take-le n work le),
      fronted-take n work le ∙ ap (λ (xs : Bytes). fronted xs work) (sym e),
      le,
    )

pub lay_patch-n-requires : goal.lay_patch-n-requires
lay_patch-n-requires c =
    let ps = c.args.patches.now in
    let i = c.loop-patch.patch-index in
    let h = c.loop-patch-test.true in
    record {
      place = place_at (length c.args.source.now) ps i blank c.requires.places h;
      old = omega (arith, c.loop-patch.invariant.2, c.loop-patch.auto.work);
      space = omega (arith, patched_end c.args.old_len ps i blank h, c.requires.space, c.loop-patch.auto.work);
    }

pub loop-patch-preserved : goal.loop-patch-preserved
loop-patch-preserved c =
    let ps = c.args.patches.now in
    let i = c.loop-patch.patch-index in
    let h = c.loop-patch-test.true in
    let p = place_at (length c.args.source.now) ps i blank c.requires.places h in
    let l = laid_in_turn c.args.source.now ps c.args.work.now (take c.args.old_len c.args.work.now) c.loop-patch.work c.lay_patch-n.new.work i c.loop-patch.n c.lay_patch-n.result h p
    c.loop-patch.invariant.0 c.loop-patch.invariant.1 c.lay_patch-n.ensures.len c.lay_patch-n.ensures.work in
    (l.0, l.1, omega (arith, patched_end c.args.old_len ps i blank h, c.requires.space, c.loop-patch.invariant.2, c.lay_patch-n.ensures.len))

pub returns : goal.returns
returns c =
    let e = laid_all_lem c.args.source.now c.args.patches.now (take c.args.old_len c.args.work.now) c.loop-patch.patch-index c.loop-patch-test.false in
    record {
      len = c.loop-patch.invariant.0 ∙ ap length e;
      work = c.loop-patch.invariant.1 ∙ ap (λ (xs : Bytes). fronted xs c.args.work.now) e;
    }
