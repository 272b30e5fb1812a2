use Rattle.std.proofs.Common.{◌-◌, length, ap, ◌∙◌, arith, rules}
use Rattle.ranges.proofs.Writes.{put_front}
use Rattle.patches.proofs.Laying.{same_questions, old_fits, places_fit, space_fits, length-fronted, laid_on_copy}
use Rattle.patches.proofs.lay_on_copy.Goals as goal

pub slice_bounds-copy_from_slice-end : goal.slice_bounds-copy_from_slice-end
slice_bounds-copy_from_slice-end c =
    let q = same_questions c.args.source.now c.args.patches.now c.args.old.now (length c.args.work.now) ∙ c.requires in
    let h = old_fits c.args.source.now c.args.patches.now (length c.args.old.now) (length c.args.work.now) q in
    search rules

pub lay_all-requires : goal.lay_all-requires
lay_all-requires c =
    let d = c.args.source.now in
    let ps = c.args.patches.now in
    let old = c.args.old.now in
    let work = c.args.work.now in
    let q = same_questions d ps old (length work) ∙ c.requires in
    let e = put_front work c.copy_from_slice.new.self old (length old - 0) c.copy_from_slice.ensures.after (omega arith) in
    let l = ap length e ∙ length-fronted old work (old_fits d ps (length old) (length work) q) in
    record { places = places_fit d ps (length old) (length work) q; space = omega (arith, l, space_fits d ps (length old) (length work) q) }

pub returns : goal.returns
returns c =
    let d = c.args.source.now in
    let ps = c.args.patches.now in
    let old = c.args.old.now in
    let work = c.args.work.now in
    let q = same_questions d ps old (length work) ∙ c.requires in
    let e = put_front work c.copy_from_slice.new.self old (length old - 0) c.copy_from_slice.ensures.after (omega arith) in
    let l = laid_on_copy d ps old work _ c.lay_all.new.work c.lay_all.result (places_fit d ps (length old) (length work) q) e c.lay_all.ensures.len c.lay_all.ensures.work in
    record { len = l.0; work = l.1 }
