use Rattle.std.proofs.Common.{false, refl}
use Rattle.std.proofs.lemmas.Result.{err_from_is_err_and}
use Rattle.storage.proofs.Order.{clash}
use Rattle.atomic_write.specs.Exports.{refused}
use Rattle.atomic_write.specs.Steps.{no_key}
use Rattle.atomic_write.proofs.atomic_write.exports.AtomicWriteStorageAdapterWritableStorageTraits.set.Goals as goal

pub returns-in_err-temporary : goal.returns-in_err-temporary
returns-in_err-temporary g c =
    let p = err_from_is_err_and c.from_residual.result c.from_residual.ensures.1 in
    rw (p.1, p.2)
    (record {
      wrote = record { accepted = λ h. clash false h refl; tidily = λ t. clash false t refl };
      exported = λ _. refused _ (no_key _ _ _ c.in_err-temporary.ensures) refl;
    })
