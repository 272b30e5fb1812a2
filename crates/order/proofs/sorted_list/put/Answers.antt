use Rattle.std.proofs.Common.{◌<◌, length, set, refl, ap, ◌∙◌, arith}
use Rattle.order.proofs.Shifts.{put_after_shift}
use Rattle.order.proofs.sorted_list.put.Goals as goal

pub returns : goal.returns
returns g c =
    let below : c.args.len < length c.args.items.now = omega (arith, c.if-len-items.false, c.requires.1) in (
      refl,
      below,
      ap (λ z. set z c.args.place c.args.x) c.copy_within.ensures.after ∙ put_after_shift c.args.items.now c.args.place c.args.len c.args.x c.requires.0 below,
    )
