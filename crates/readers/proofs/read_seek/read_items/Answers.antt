use Rattle.std.proofs.Common.{length, sym, ap, ◌∙◌, arith, rules}
use Rattle.storage.specs.Contents.{bytes_of}
use Rattle.std.proofs.lemmas.Result.{err_from_is_err_and}
use Rattle.readers.proofs.Items.{ok_from_mapped, err_from_mapped}
use Rattle.readers.proofs.Turns.{upto_none, upto_all, upto-refused, upto-more, room_more, still_there}
use Rattle.readers.proofs.read_seek.read_items.Goals as goal

pub loop-i-init : goal.loop-i-init
loop-i-init g c = upto_none g.R.Reader _ _ _ _ (c.requires.place ∙ c.requires.size)

pub read_item-read-requires : goal.read_item-read-requires
read_item-read-requires g c =
    let e = c.loop-i.invariant.place.value in
    record {
      value = still_there g.R.Reader _ _ e c.requires.value;
      size = c.requires.size ∙ ap (λ v. length (bytes_of v)) (sym e);
      within = omega (arith, c.loop-i.invariant.within, c.loop-i.auto.out);
    }

pub overflow_add-at : goal.overflow_add-at
overflow_add-at g c =
    let e = ok_from_mapped _ c.read_item-read.result c.in_ok-len.ensures.cases in
    let room = room_more g.R.Reader _ c.args.reader.now c.args.out.now c.args.notes.now _ _ _ _ _ c.loop-i-test.true c.loop-i.auto.out c.loop-i.auto.notes c.loop-i.invariant _ (sym e ∙ c.read_item-read.ensures.answer) in
    search rules

pub loop-i-preserved : goal.loop-i-preserved
loop-i-preserved g c =
    let e = ok_from_mapped _ c.read_item-read.result c.in_ok-len.ensures.cases in
    let u =
    upto-more g.R.Reader _ c.args.reader.now c.args.out.now c.args.notes.now _ _ c.loop-i.reader c.loop-i.out c.loop-i.notes c.loop-i-test.true c.loop-i.auto.out c.loop-i.auto.notes c.loop-i.invariant
    _ _ _ _ c.requires.size (sym e ∙ c.read_item-read.ensures.answer) (simp e at c.read_item-read.ensures.output) (simp e at c.read_item-read.ensures.place)
    in
    simp c.bytes_at.ensures u

pub returns-in_err-len : goal.returns-in_err-len
returns-in_err-len g c =
    let e = err_from_mapped _ c.read_item-read.result c.in_err-len.ensures.cases in
    let p = err_from_is_err_and c.from_residual.result c.from_residual.ensures.1 in
    let u =
    upto-refused g.R.Reader _ c.args.reader.now c.args.out.now c.args.notes.now _ _ c.loop-i.reader c.loop-i.out c.loop-i.notes c.loop-i-test.true c.loop-i.auto.out c.loop-i.auto.notes c.loop-i.invariant
    _ _ _ _ _ _ c.requires.size (sym e.1 ∙ c.read_item-read.ensures.answer) (simp e.1 at c.read_item-read.ensures.output) (simp e.1 at c.read_item-read.ensures.place) (search (rules, e.2))
    in
    rw (p.1, p.2) (record { read = u.0; place = u.1 })

pub returns : goal.returns
returns g c =
    let p = upto_all g.R.Reader _ c.args.reader.now c.args.out.now c.args.notes.now _ _ _ _ _ c.loop-i-test.false c.loop-i.auto.i-counter-end c.loop-i.invariant in
    record { read = p.0; place = p.1 }
