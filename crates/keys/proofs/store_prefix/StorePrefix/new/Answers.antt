use Rattle.std.proofs.Common.{sym, refl, ◌∙◌, subst, arith}
use Rattle.std.proofs.lemmas.List.{append-nil}
use Rattle.keys.specs.Text.{PrefixText}
use Rattle.keys.proofs.store_prefix.StorePrefix.new.Goals as goal

pub joined-requires : goal.joined-requires
joined-requires c = (omega arith, λ _. subst PrefixText (sym (append-nil c.args.bytes.now)) (c.if-not-validate.ensures.0 refl))

pub returns : goal.returns
returns c = (
  c.if-bytes-gt-MAX_PREFIX_LEN.false,
  c.if-not-validate.ensures.0 refl,
  c.joined.ensures ∙ append-nil c.args.bytes.now,
)
