use Rattle.std.proofs.Common.{◌-◌, ◌+◌, ℕ, get_or, length, rules, arith, sym, ap, ◌∙◌, true≢false}
use Rattle.std.proofs.lemmas.Iterator.{window_more}
use Rattle.std.specs.Slice.Iter.{windows_rest}
use Rattle.keys.specs.Texts.{apart_all, double_from}
use Rattle.keys.proofs.text.has_double_slash.Goals as goal

pub returns-then-pair-eq47-2 : goal.returns-then-pair-eq47-2
returns-then-pair-eq47-2 c =
    let h = window_more c.args.text.now c.loop-pair.pair-iterator c.next.new.self _ _ c.in-Some.is c.next.ensures.steps (search rules) (search rules) (search rules) in
    let i : ℕ = length c.args.text.now - length (windows_rest c.loop-pair.pair-iterator) in (
      λ _. double_from c.args.text.now i (search rules) (ap (λ k. get_or c.args.text.now k 0) (omega arith) ∙ sym (h.3 0 0 (search rules)) ∙ c.if-pair-eq47.true) (sym (h.3 1 0 (search rules)) ∙ c.if-pair-eq47-2.true),
      search rules,
    )

pub returns : goal.returns
returns c = (
  λ e. absurd (true≢false (sym e)),
  λ d. absurd (apart_all c.args.text.now (length c.args.text.now - length (windows_rest c.loop-pair.pair-iterator) + 1) (search rules) c.loop-pair.invariant.3 d),
)
