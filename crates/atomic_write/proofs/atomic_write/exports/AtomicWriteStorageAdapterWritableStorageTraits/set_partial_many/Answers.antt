use Rattle.std.proofs.Common.{false, refl, ap, ◌∙◌}
use Rattle.keys.specs.Text.{Bytes}
use Rattle.keys.specs.StoreKeys.{text}
use Rattle.storage.specs.Contents.{put}
use Rattle.storage.proofs.Order.{clash}
use Rattle.atomic_write.specs.Steps.{built_value, patch_exported}
use Rattle.atomic_write.proofs.atomic_write.exports.AtomicWriteStorageAdapterWritableStorageTraits.set_partial_many.Goals as goal

pub returns : goal.returns
returns g c =
    let m = g.S.ReadableStorageTraits in
    let k = text c.args.key.now in
    let s = c.args.self.now.storage in
    let key = c.in_ok-temporary.ensures.0 in
    let built = c.in_ok-n.ensures.answer in
    let there = c.in_ok-n.ensures.work in
    record {
      wrote = record {
        accepted = λ h. (
          c.set_via_temporary_key.ensures.stored h ∙ ap (λ (b : Bytes). put k b (m.contents s)) (built_value m k _ _ s _ _ _ _ key built there refl),
          there,
        );
        tidily = λ t. clash false t refl;
      };
      exported = λ t. patch_exported m k _ _ s _ _ _ _ key built there refl _ _ (c.set_via_temporary_key.ensures.exported t);
    }
