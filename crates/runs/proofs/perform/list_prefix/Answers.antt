use Rattle.std.proofs.Common.{◌≡◌, length, refl, ◌∙◌, arith}
use Rattle.std.proofs.lemmas.List.{with_items_is}
use Rattle.runs.specs.Readings.{blank_rows}
use Rattle.runs.proofs.Answered.{all_blank, rows_listed_lem}
use Rattle.runs.proofs.perform.list_prefix.Goals as goal

pub returns : goal.returns
returns g c tidy =
    let rows = c.list_prefix-result.new.keys in
    let l : length rows ≡ c.in_ok-keys.keys.len = omega arith in
    (_, refl, rows_listed_lem c.as_mut_slice.result.now (blank_rows c.args.len) (all_blank _ _ _ c.empty.ensures (c.as_mut_slice.ensures.value ∙ c.in_ok-keys.ensures.items_if_clones_equal (λ y h. h))) (with_items_is c.in_ok-keys.keys rows l) c.list_prefix-result.ensures, refl)
