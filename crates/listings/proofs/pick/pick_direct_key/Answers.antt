use Rattle.std.proofs.Common.{rules}
use Rattle.keys.specs.StorePrefixesLemmas.{prefix_rule}
use Rattle.keys.specs.Texts.{final_slash}
use Rattle.listings.proofs.Children.{direct_then}
use Rattle.listings.proofs.pick.pick_direct_key.Goals as goal

pub returns : goal.returns
returns c = direct_then _ _ _ _ _ (final_slash _ (prefix_rule c.args.prefix.now)) c.parent.ensures c.eq.ensures.decides c.then.ensures.variant (search (rules, c.then.ensures.some))
