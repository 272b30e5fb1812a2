use Rattle.std.proofs.Common.{◌≡◌, sym, ◌∙◌, subst, arith}
use Rattle.std.proofs.lemmas.List.{append-nil}
use Rattle.keys.specs.Text.{Parent, PrefixText}
use Rattle.keys.specs.StorePrefixes.{ParentIs, prefix_text}
use Rattle.keys.proofs.Parents.{parent_unique, prefix_from_parent, parent_within}
use Rattle.keys.proofs.store_prefix.StorePrefix.parent_of.Goals as goal

pub joined-requires : goal.joined-requires
joined-requires c = (
  omega (arith, parent_within c.args.text.now c.parent_text.result.now c.parent_text.ensures, c.requires.0),
  λ _. subst PrefixText (sym (append-nil c.parent_text.result.now)) (prefix_from_parent c.args.text.now c.parent_text.result.now c.parent_text.ensures c.requires.1),
)

pub returns : goal.returns
unfolding ParentIs
returns c =
    let e : prefix_text c.joined.result ≡ c.parent_text.result.now = c.joined.ensures ∙ append-nil c.parent_text.result.now in
    (subst (Parent c.args.text.now) (sym e) c.parent_text.ensures, λ q h. parent_unique c.args.text.now q c.parent_text.result.now h c.parent_text.ensures ∙ sym e)
