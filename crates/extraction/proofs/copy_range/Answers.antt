use Rattle.std.proofs.Common.{◌≡◌, ◌+◌, ◌-◌, [], length, sym, ap, ◌∙◌, arith, rules}
use lib.Seq.{paste}
use Rattle.std.proofs.lemmas.List.Edits.{paste_none}
use Rattle.ranges.specs.Ranges.{Bytes, picked}
use Rattle.extraction.proofs.Picks.{picked_from_ok, picked_from_err}
use Rattle.ranges.proofs.Writes.{put_part}
use Rattle.extraction.proofs.copy_range.Goals as goal

pub returns-in-Ok : goal.returns-in-Ok
returns-in-Ok c =
    let p = picked_from_ok c.args.bytes.now c.args.range _ _ c.in-Ok.ensures in
    let k = c.args.at + length c.in-Ok.part.now - c.args.at in
    let e : k ≡ length (picked c.args.bytes.now c.args.range) = omega (arith, ap length p) in
    record {
      end = ap (λ (xs : Bytes). c.args.at + length xs) p;
      out = put_part c.args.out.now _ _ c.args.at k (c.copy_from_slice.ensures.after ∙ p) e;
    }

pub returns-in-Err : goal.returns-in-Err
returns-in-Err c =
    let p = picked_from_err _ _ _ _ c.in-Err.ensures in
    record {
      end = omega (arith, ap length p);
      out = paste_none c.args.out.now c.args.at [] ∙ ap (λ (xs : Bytes). paste c.args.out.now c.args.at xs (length xs)) (sym p);
    }

pub slice_bounds-copy_from_slice-end : goal.slice_bounds-copy_from_slice-end
slice_bounds-copy_from_slice-end c = let e = ap length (picked_from_ok c.args.bytes.now c.args.range _ _ c.in-Ok.ensures) in search rules
