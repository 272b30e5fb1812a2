use Rattle.std.proofs.Common.{rules}
use Rattle.listings.proofs.Children.{child_then}
use Rattle.listings.proofs.pick.pick_child.Goals as goal

pub returns-in_err-child : goal.returns-in_err-child
returns-in_err-child c = rw c.from_residual.ensures (λ t x. c.in_err-child.ensures t x.0)

pub returns : goal.returns
returns c = child_then _ _ c.in_ok-child.child _ _ _ c.in_ok-child.ensures c.as_bytes.ensures c.is_reserved.ensures c.then.ensures.variant (search (rules, c.then.ensures.some))
