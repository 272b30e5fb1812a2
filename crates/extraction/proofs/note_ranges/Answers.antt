use Rattle.std.proofs.Common.{◌+◌, get_or, set, None, refl, ap, ◌∙◌, arith}
use Rattle.ranges.specs.declared.byte_range.ByteRange.TheVariants.{FromStart}
use Rattle.extraction.specs.Notes.{Note}
use Rattle.extraction.specs.Extracts.{note_at, notes_from}
use Rattle.extraction.proofs.Items.{length-items_more, length-items-take, noted_more, noted_all}
use Rattle.extraction.proofs.note_ranges.Goals as goal

pub loop-i-init : goal.loop-i-init
unfolding notes_from
loop-i-init c = (refl, refl)

pub overflow_add-at : goal.overflow_add-at
overflow_add-at c =
    let b = c.args.bytes.now in
    let rs = c.args.ranges.now in
    let i = c.loop-i.i in
    let m = length-items_more b rs i (FromStart 0 None) c.loop-i-test.true in
    let t = length-items-take b rs (i + 1) in
    omega (arith, m, t, c.loop-i.invariant.0, c.requires.fit, c.picked_len-at.ensures)

pub loop-i-preserved : goal.loop-i-preserved
loop-i-preserved c =
    let b = c.args.bytes.now in
    let rs = c.args.ranges.now in
    let i = c.loop-i.i in
    let d = FromStart 0 None in
    let m = length-items_more b rs i d c.loop-i-test.true in
    let n = c.note_of.ensures ∙ ap (λ at. note_at at b (get_or rs i d)) c.loop-i.invariant.0 in (
      omega (arith, m, c.loop-i.invariant.0, c.picked_len-at.ensures),
      ap (λ (x : Note). set c.loop-i.notes i x) n
          ∙ noted_more b rs i d c.args.notes.now c.loop-i.notes c.loop-i-test.true (omega (arith, c.requires.space, c.loop-i-test.true)) c.loop-i.invariant.1,
    )

pub returns : goal.returns
returns c = c.loop-i.invariant.1 ∙ noted_all c.args.bytes.now c.args.ranges.now c.loop-i.i c.args.notes.now c.loop-i-test.false c.loop-i.auto.i-end
