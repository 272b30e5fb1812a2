use Rattle.std.proofs.lemmas.Result.{err_from_is_err_and}
use Rattle.storage.proofs.Erasures.{row_no_key, row_key}
use Rattle.atomic_write.specs.Adapters.{over}
use Rattle.atomic_write.proofs.atomic_write.AtomicWriteStorageAdapter.erase_row.Goals as goal

pub returns-in_err-key : goal.returns-in_err-key
returns-in_err-key g c =
    let p = err_from_is_err_and c.from_residual.result c.from_residual.ensures.1 in
    rw p.1 (row_no_key (over g.S.ReadableStorageTraits.tidy g.S.ReadableStorageTraits) _ _ _ c.args.self.now c.in_err-key.ensures p.2)

pub returns : goal.returns
returns g c = row_key (over g.S.ReadableStorageTraits.tidy g.S.ReadableStorageTraits) _ _ _ c.args.self.now _ c.in_ok-key.ensures c.erase.ensures.forwarded
