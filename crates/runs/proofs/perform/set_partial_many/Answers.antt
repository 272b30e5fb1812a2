use Rattle.std.proofs.Common.{◌≡◌, length, ◌∙◌, arith}
use Rattle.std.proofs.lemmas.List.{with_items_is}
use Rattle.keys.specs.StoreKeys.{text}
use Rattle.runs.proofs.Answered.{patch_left}
use Rattle.runs.proofs.perform.set_partial_many.Goals as goal

pub returns : goal.returns
returns g c tidy =
    let work' = c.set_partial_many-result.new.work in
    let l : length work' ≡ c.in_ok-work.work.len = omega arith in
    patch_left g.S.ReadableStorageTraits (text c.args.key.now) c.args.source.now c.args.patches.now c.args.adapter.now.storage c.set_partial_many-result.new.self.storage c.args.work_len c.as_mut_slice.result.now work' _ c.set_partial_many-result.result (c.as_mut_slice.ensures.value ∙ c.in_ok-work.ensures.items_if_clones_equal (λ y h. h)) (with_items_is c.in_ok-work.work work' l) (c.set_partial_many-result.ensures.exported tidy)
