use Rattle.std.proofs.Common.{◌++◌, length-append, arith, subst, sym}
use Rattle.keys.specs.Text.{PrefixText}
use Rattle.keys.specs.Texts.{prefix_text_or_nil}
use Rattle.keys.proofs.store_prefix.StorePrefix.joined.Goals as goal

pub invariant_of-result : goal.invariant_of-result
invariant_of-result c =
    let n = length-append c.args.front.now c.args.back.now in record {
      within = rw c.of.ensures (omega (arith, n, c.requires.0));
      rule = subst PrefixText (sym c.of.ensures) (prefix_text_or_nil (c.args.front.now ++ c.args.back.now) (λ h. c.requires.1 (omega arith)));
    }
