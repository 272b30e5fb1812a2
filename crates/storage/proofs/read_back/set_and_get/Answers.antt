use Rattle.std.proofs.Common.{Ok, Err, sym, refl, ap, ◌∙◌}
use Rattle.std.proofs.lemmas.Result.{err_from_is_err_and}
use Rattle.storage.specs.Contents.{found}
use Rattle.storage.proofs.Finds.{found-put-same}
use Rattle.storage.proofs.read_back.set_and_get.Goals as goal

pub returns-in_err-set : goal.returns-in_err-set
returns-in_err-set g c =
    let p = err_from_is_err_and c.from_residual.result c.from_residual.ensures.1 in
    record { written = Err c.in_err-set.field-0.0; wrote = c.in_err-set.ensures; read = (p.1 ∙ ap Err p.2, refl) }

pub returns : goal.returns
returns g c =
    let there = ap (found _) (c.in_ok-set.ensures.accepted refl) ∙ found-put-same _ _ _ in
    record { written = Ok tt; wrote = c.in_ok-set.ensures; read = rw (sym there) c.get.ensures }
