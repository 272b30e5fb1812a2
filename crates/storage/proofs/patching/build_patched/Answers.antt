use Rattle.std.proofs.Common.{ℕ, Ok, ap}
use Rattle.keys.specs.StoreKeys.{text}
use Rattle.storage.specs.Contents.{found, bytes_of}
use Rattle.storage.proofs.OffsetWrites.{asked_yes, old_fits_work, not_refused, laid_there}
use Rattle.storage.proofs.patching.build_patched.Goals as goal

pub copy_value-old_len-requires : goal.copy_value-old_len-requires
copy_value-old_len-requires g c =
    let old = bytes_of (found (text c.args.key.now) (g.S.ReadableStorageTraits.contents c.args.store.now)) in
    let h = (asked_yes _ _ _ c.in_ok-check_lay.ensures).0 in
    old_fits_work c.args.source.now c.args.patches.now old c.args.work.now h

pub returns-in_err-lay_patches_in_place : goal.returns-in_err-lay_patches_in_place
returns-in_err-lay_patches_in_place g c =
    let old = bytes_of (found (text c.args.key.now) (g.S.ReadableStorageTraits.contents c.args.store.now)) in
    let h = (asked_yes _ _ _ c.in_ok-check_lay.ensures).0 in
    absurd
    (not_refused c.args.source.now c.args.patches.now old c.args.work.now h _ _ c.copy_value-old_len.ensures.work c.copy_value-old_len.ensures.len _
    c.in_err-lay_patches_in_place.ensures.answer)

pub returns : goal.returns
returns g c =
    let old = bytes_of (found (text c.args.key.now) (g.S.ReadableStorageTraits.contents c.args.store.now)) in
    let h = (asked_yes _ _ _ c.in_ok-check_lay.ensures).0 in
    let l =
    laid_there c.args.source.now c.args.patches.now old c.args.work.now h _ _ c.copy_value-old_len.ensures.work c.copy_value-old_len.ensures.len _ _
    c.in_ok-lay_patches_in_place.ensures.answer c.in_ok-lay_patches_in_place.ensures.work in
    record { answer = rw h (ap (λ (n : ℕ). Ok n) l.0); work = l.1 }
