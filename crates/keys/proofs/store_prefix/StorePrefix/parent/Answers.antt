use Rattle.std.proofs.Common.{◌≡◌, ◌∷◌, [], ◌++◌, sym, ap, ◌∙◌}
use Rattle.keys.specs.Text.{slash}
use Rattle.keys.specs.StorePrefixes.{prefix_text}
use Rattle.keys.specs.StorePrefixesLemmas.{prefix_rule}
use Rattle.keys.specs.Texts.{final_slash}
use Rattle.keys.proofs.store_prefix.StorePrefix.parent.Goals as goal

pub returns : goal.returns
returns c =
    let e : prefix_text c.args.self.now ≡ c.in_ok-front.front.now ++ (c.in_ok-front.field-0-0.now ∷ []) = sym c.as_bytes.ensures ∙ c.in_ok-front.ensures.cases.0 in
    let last : c.in_ok-front.field-0-0.now ≡ slash = final_slash (prefix_text c.args.self.now) (prefix_rule c.args.self.now) c.in_ok-front.field-0-0.now (c.in_ok-front.front.now, e) in
    (c.in_ok-front.front.now, e ∙ ap (λ b. c.in_ok-front.front.now ++ (b ∷ [])) last, c.parent_of.ensures)
