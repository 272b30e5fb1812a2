use Rattle.std.proofs.Common.{refl, subst}
use Rattle.std.proofs.lemmas.Result.{err_from_is_err_and}
use Rattle.atomic_write.specs.Exports.{Exported}
use Rattle.session.specs.Calls.{no_key, asked}
use Rattle.session.proofs.calls.set_labelled.Goals as goal

pub returns-in_err-key : goal.returns-in_err-key
returns-in_err-key g c =
    let p = err_from_is_err_and c.from_residual.result c.from_residual.ensures.1 in
    λ _. rw (p.1, p.2) (no_key c.in_err-key.field-0.0 c.in_err-key.ensures refl refl)

pub returns : goal.returns
returns g c = λ t. asked c.set.result (subst (λ k. Exported g.S.ReadableStorageTraits k c.args.value.now c.args.look_box.now.storage c.set.new.self.storage c.set.result) c.in_ok-key.ensures.2 (c.set.ensures.exported t)) refl
