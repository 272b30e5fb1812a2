use Rattle.std.proofs.Common.{◌≡◌, false, Result, refl, sym, subst, ◌∙◌, rules}
use Rattle.std.proofs.lemmas.Result.{err_from_is_err_and}
use Rattle.storage.specs.Faults.{at_step, raised}
use Rattle.storage.specs.Stores.{Wrote}
use Rattle.storage.specs.Writes.{set}
use Rattle.storage.specs.declared.fault.Fault.{Fault}
use Rattle.keys.specs.StoreKeys.{text}
use Rattle.storage.proofs.Order.{clash}
use Rattle.atomic_write.specs.Exports.{refused}
use Rattle.atomic_write.specs.Steps.{taken, free, absent_at, stored_at, unbegun_at, ended_at}
use Rattle.storage.proofs.Mapped.{mapped_ok, mapped_err}
use Rattle.atomic_write.proofs.atomic_write.AtomicWriteStorageAdapter.set_via_temporary_key.Goals as goal

pub returns-then-is_some : goal.returns-then-is_some
returns-then-is_some g c =
    let no = taken _ _ _ _ c.requires.0 c.requires.1 c.size_key.ensures c.if-is_some.ensures in
    record { stored = λ h. clash false h refl; exported = λ tidy. rw c.own.ensures (refused _ no refl) }

pub returns-in_err-map_err : goal.returns-in_err-map_err
returns-in_err-map_err g c =
    let p = err_from_is_err_and c.from_residual.result c.from_residual.ensures.1 in
    let m = mapped_err _ c.set.result _ _ c.map_err.ensures.cases c.in_err-map_err.was in
    let stepped : c.in_err-map_err.field-0.0 ≡ at_step 1 (raised m.0) = search rules in
    let s = c.args.self.now.storage in
    let wrote =
    subst (λ (r : Result (Unit {0}) Fault). Wrote g.S.ReadableStorageTraits (set (text c.args.temporary.now) c.args.value.now) r s c.set.new.self) m.1 c.set.ensures in
    rw p.1
    (record {
      stored = λ h. clash false h refl;
      exported = λ tidy.
          unbegun_at _ _ _ _ _ _ tidy c.requires.1 (free _ _ _ _ c.requires.0 c.requires.1 c.size_key.ensures c.if-is_some.ensures)
          m.0 _ (p.2 ∙ stepped) wrote;
    })

pub returns : goal.returns
returns g c =
    let done = mapped_ok _ c.set.result _ _ c.map_err.ensures.cases c.in_ok-map_err.was in
    let s = c.args.self.now.storage in
    let first =
    subst (λ (r : Result (Unit {0}) Fault). Wrote g.S.ReadableStorageTraits (set (text c.args.temporary.now) c.args.value.now) r s c.set.new.self) done c.set.ensures in
    record {
      stored = λ h.
          stored_at g.S.ReadableStorageTraits _ _ _ s c.set.new.self c.rename.new.self (absent_at _ _ _ c.size_key.ensures c.if-is_some.ensures) first
          _ c.rename.ensures (sym c.map_err-2.ensures.variant ∙ h);
      exported = λ tidy.
          ended_at _ _ _ _ _ _ tidy c.requires.1 (free _ _ _ _ c.requires.0 c.requires.1 c.size_key.ensures c.if-is_some.ensures)
          _ first _ c.rename.result _ (λ f g learnt. search rules) c.rename.ensures c.map_err-2.ensures.cases;
    }
