use Rattle.std.proofs.Common.{◌≡◌, false, is_ok, refl, sym, ap, ◌∙◌, rules}
use Rattle.std.proofs.lemmas.Result.{err_from_is_err_and, IfErr-at_err}
use Rattle.storage.specs.Faults.{at_index}
use Rattle.storage.proofs.Erasures.{erased_none, erased_more, erased_stopped, erased_all}
use Rattle.storage.proofs.Order.{clash}
use Rattle.storage.proofs.Mapped.{mapped_err}
use Rattle.atomic_write.proofs.atomic_write.AtomicWriteStorageAdapter.erase_many.Goals as goal

pub loop-i-init : goal.loop-i-init
loop-i-init g c = erased_none c.args.rows.now _

pub loop-i-preserved : goal.loop-i-preserved
loop-i-preserved g c =
    erased_more c.args.rows.now c.loop-i.i-counter _ _ _ c.loop-i-test.true c.loop-i.invariant _
    (c.erase_row.ensures.accepted (sym c.map_err.ensures.variant ∙ ap is_ok c.in_ok-map_err.was))

pub returns-in_err-map_err : goal.returns-in_err-map_err
returns-in_err-map_err g c =
    let p = err_from_is_err_and c.from_residual.result c.from_residual.ensures.1 in
    let m = mapped_err _ c.erase_row.result _ _ c.map_err.ensures.cases c.in_err-map_err.was in
    let indexed : c.in_err-map_err.field-0.0 ≡ at_index c.loop-i.i-counter m.0 = search rules in
    rw p.1
    (record {
      accepted = λ e. clash false e refl;
      tidily = λ t.
          erased_stopped c.args.rows.now c.loop-i.i-counter _ _ _ c.loop-i-test.true c.loop-i.invariant m.0 _ _ _
          (IfErr-at_err _ m.1 (c.erase_row.ensures.tidily t)) (p.2 ∙ indexed);
    })

pub returns : goal.returns
returns g c =
    record { accepted = λ _. erased_all c.args.rows.now c.loop-i.i-counter _ _ c.loop-i-test.false c.loop-i.invariant; tidily = λ _. tt }
