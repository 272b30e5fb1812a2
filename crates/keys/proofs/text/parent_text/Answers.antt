use Rattle.std.proofs.Common.{◌≡◌, ℕ, ◌+◌, ◌<◌, ◌≤◌, length, get_or, ap, ◌∙◌, rules, arith}
use Rattle.keys.proofs.Parents.{parent_at}
use Rattle.keys.proofs.text.parent_text.Goals as goal

pub returns-in-Some : goal.returns-in-Some
returns-in-Some c =
    let here : get_or c.args.text.now c.in-Some.i 0 ≡ 47 = search rules in
    let behind : (k : ℕ) → c.in-Some.i + 1 ≤ k → k < length c.args.text.now → get_or c.args.text.now k 0 ≡ 47 → ⊥ = search rules in
    parent_at c.args.text.now (c.in-Some.i + 1) (search rules) behind (λ _. ap (λ k. get_or c.args.text.now k 0) (omega arith) ∙ here)

pub returns-in-None : goal.returns-in-None
returns-in-None c =
    let none : (k : ℕ) → 0 ≤ k → k < length c.args.text.now → get_or c.args.text.now k 0 ≡ 47 → ⊥ = search rules in
    parent_at c.args.text.now 0 (omega arith) none (λ h. absurd (omega arith))
