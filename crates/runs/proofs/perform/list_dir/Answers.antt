use Rattle.std.proofs.Common.{◌≡◌, length, refl, ◌∙◌, arith}
use Rattle.std.proofs.lemmas.List.{with_items_is}
use Rattle.runs.specs.Readings.{blank_rows}
use Rattle.runs.proofs.Answered.{all_blank, dir_listed_lem}
use Rattle.runs.proofs.perform.list_dir.Goals as goal

pub returns : goal.returns
returns g c tidy =
    let ks = c.list_dir-result.new.keys in
    let ps = c.list_dir-result.new.prefixes in
    let l : length ks ≡ c.in_ok-keys.keys.len = omega arith in
    let m : length ps ≡ c.in_ok-prefixes.prefixes.len = omega arith in (
      _,
      refl,
      dir_listed_lem c.as_mut_slice.result.now (blank_rows c.args.keys_len) c.as_mut_slice-2.result.now (blank_rows c.args.prefixes_len) (all_blank _ _ _ c.empty.ensures (c.as_mut_slice.ensures.value ∙ c.in_ok-keys.ensures.items_if_clones_equal (λ y h. h))) (all_blank _ _ _ c.empty-2.ensures (c.as_mut_slice-2.ensures.value ∙ c.in_ok-prefixes.ensures.items_if_clones_equal (λ y h. h))) (with_items_is c.in_ok-keys.keys ks l) (with_items_is c.in_ok-prefixes.prefixes ps m) c.list_dir-result.ensures,
      refl,
    )
