use Rattle.std.proofs.lemmas.Result.{err_from_is_err_and}
use Rattle.storage.proofs.Readings.{one-refused, one_read, one-unfit}
use Rattle.storage.proofs.reads.get_partial.Goals as goal

pub returns-in_err-read : goal.returns-in_err-read
returns-in_err-read g c =
    let p = err_from_is_err_and c.from_residual.result c.from_residual.ensures.1 in
    rw (p.1, p.2) (one-refused _ _ _ _ _ _ _ c.in_err-read.ensures)

pub returns-in_err-notes : goal.returns-in_err-notes
returns-in_err-notes g c =
    let p = err_from_is_err_and c.from_residual-in_err-notes.result c.from_residual-in_err-notes.ensures.1 in
    rw p.1 (one-unfit _ _ _ _ _ _ _ _ _ c.in_ok-read.ensures c.in_err-notes.was p.2)

pub returns : goal.returns
returns g c = one_read _ _ _ _ _ _ _ _ c.in_ok-read.ensures c.in_ok-notes.was
