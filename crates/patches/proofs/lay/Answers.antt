use Rattle.std.proofs.Common.{ℕ, ◌+◌, ◌-◌, length, drop, replicate, sym, refl, ap, ◌∙◌, arith}
use Rattle.std.proofs.lemmas.List.{length-replicate, length-take-le, length-drop}
use Rattle.std.proofs.lemmas.Slice.{put_mid-paste}
use Rattle.patches.proofs.Laying.{laid-after_gap, laid-within}
use Rattle.ranges.proofs.Writes.{put_part}
use Rattle.patches.proofs.lay.Goals as goal
use Rattle.patches.proofs.lay.Goals.{then-n-at, else-n-at}

pub returns : goal.returns
returns c =
    let n = c.args.n in
    let at = c.args.at in
    let p = c.args.part.now in
    let work = c.args.work.now in
    let k = at + length p - at in
    let put = put_part c.if-n-at.work c.copy_from_slice.new.self p at k c.copy_from_slice.ensures.after (omega arith) in
    record {
      len = c.max.ensures;
      work =
          put ∙ elim c.if-n-at.branch [
            | then-n-at w ↦
                let lt = w.if-n-at.true in
                let l = length-take-le (at - n) (drop n work) (omega (arith, length-drop n work, c.requires.space)) in
                let zeros = w.fill.ensures.after (λ y h. h) ∙ ap (λ (m : ℕ). replicate {A = ℕ} m 0) l in
                let e = w.work-is ∙ put_mid-paste n (at - n) work w.fill.new.self (replicate (at - n) 0) (at - n) zeros refl (sym (length-replicate {A = ℕ} (at - n) 0)) in
                laid-after_gap work c.if-n-at.work p n at c.requires.old c.requires.space lt e
            | else-n-at w ↦ laid-within work c.if-n-at.work p n at c.requires.old c.requires.space w.if-n-at.false w.work-is
          ];
    }
