use Rattle.std.proofs.Common.{length, refl}
use Rattle.std.proofs.lemmas.Result.{err_from_is_err_and}
use Rattle.keys.specs.StoreKeys.{text}
use Rattle.patches.specs.Patches.{lay_no}
use Rattle.storage.specs.Contents.{found, bytes_of}
use Rattle.storage.specs.Writes.{patched}
use Rattle.storage.proofs.OffsetWrites.{built_no, built_yes}
use Rattle.storage.proofs.patching.store_set_partial_many.Goals as goal

pub returns-in_err-n : goal.returns-in_err-n
returns-in_err-n g c =
    let p = err_from_is_err_and c.from_residual.result c.from_residual.ensures.1 in
    let k = text c.args.key.now in
    let held = g.S.ReadableStorageTraits.contents c.args.store.now in
    built_no g.S.ReadableStorageTraits (lay_no c.args.source.now c.args.patches.now (bytes_of (found k held)) (length c.args.work.now)) k
    (patched k c.args.source.now c.args.patches.now held) _ c.args.store.now c.args.work.now _ _ _ _
    c.in_err-n.ensures.answer p.1 p.2 c.in_err-n.ensures.work

pub returns : goal.returns
returns g c =
    let k = text c.args.key.now in
    let held = g.S.ReadableStorageTraits.contents c.args.store.now in
    built_yes g.S.ReadableStorageTraits (lay_no c.args.source.now c.args.patches.now (bytes_of (found k held)) (length c.args.work.now)) k
    (patched k c.args.source.now c.args.patches.now held) _ c.args.store.now c.args.work.now _ _ _ _ _
    c.in_ok-n.ensures.answer refl refl c.set.ensures c.in_ok-n.ensures.work
