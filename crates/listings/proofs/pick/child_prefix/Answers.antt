use Rattle.std.proofs.Common.{◌≡◌, ◌+◌, ◌-◌, length, take, ap, subst, arith, rules, tests}
use Rattle.std.proofs.lemmas.Iterator.{IsFirst-from_position, YieldsList-from_slice}
use Rattle.keys.specs.StorePrefixes.{MadePrefix, prefix_text}
use Rattle.keys.specs.StoreKeysLemmas.{key_rule, key_within}
use Rattle.keys.specs.StorePrefixesLemmas.{prefix_rule}
use Rattle.keys.specs.Text.{slash}
use Rattle.keys.specs.Texts.{final_slash}
use Rattle.listings.proofs.Children.{child_none, child_made, not_stripped, stripped}
use Rattle.listings.proofs.pick.child_prefix.Goals as goal

pub returns-in_err-behind : goal.returns-in_err-behind
returns-in_err-behind c = rw c.from_residual.ensures (not_stripped _ _ _ _ c.as_bytes-bytes.ensures c.as_bytes.ensures c.in_err-behind.ensures.cases)

pub returns-in_err-len : goal.returns-in_err-len
returns-in_err-len c =
    let rest = c.in_ok-behind.behind.now in
    let cases = c.in_ok-behind.ensures.cases in
    let whole = stripped _ _ _ _ rest c.as_bytes-bytes.ensures c.as_bytes.ensures cases.0 cases.1 in
    let none = IsFirst-from_position _ _ _ (λ x. x ≡ slash) (λ x. x ≡ slash → ⊥) c.in_err-len.ensures.ran (YieldsList-from_slice rest cc) (λ x q k. search (rules, tests)) (λ x q k. search (rules, tests)) in
    rw c.from_residual-in_err-len.ensures (child_none _ _ rest whole (λ j l. none j 0 (omega arith) l))

pub returns : goal.returns
returns c =
    let rest = c.in_ok-behind.behind.now in
    let m = c.in_ok-len.len in
    let cases = c.in_ok-behind.ensures.cases in
    let whole = stripped _ _ _ _ rest c.as_bytes-bytes.ensures c.as_bytes.ensures cases.0 cases.1 in
    let first = IsFirst-from_position _ _ _ (λ x. x ≡ slash) (λ x. x ≡ slash → ⊥) c.in_ok-len.ensures.ran (YieldsList-from_slice rest cc) (λ x q k. search (rules, tests)) (λ x q k. search (rules, tests)) in
    let e : length c.as_bytes-2.result.now + m + 1 - 0 ≡ length (prefix_text c.args.prefix.now) + m + 1 = omega (arith, ap length c.as_bytes-2.ensures) in
    child_made _ _ rest (key_rule c.args.key.now) (final_slash _ (prefix_rule c.args.prefix.now)) whole m first.0 (first.1 0) (λ j l. first.2 j 0 (omega arith) l)
    _ _
    (key_within c.args.key.now)
    (subst (λ z. MadePrefix (take (length (prefix_text c.args.prefix.now) + m + 1) z) c.new.result) c.as_bytes-bytes.ensures
    (subst (λ n. MadePrefix (take n c.as_bytes-bytes.result.now) c.new.result) e c.new.ensures))
    c.ok.ensures.value
