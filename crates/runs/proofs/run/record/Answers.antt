use Rattle.std.proofs.Common.{◌≡◌, List, [], ◌∷◌, ◌++◌, length, vec_items, ap, ◌∙◌, arith}
use Rattle.std.proofs.lemmas.List.{length_push}
use Rattle.runs.specs.declared.call.Answer.{Answer}
use Rattle.runs.proofs.Loops.{ran_none, ran_more}
use Rattle.runs.proofs.run.record.Goals as goal

pub loop-call-init : goal.loop-call-init
loop-call-init g c = (ap length c.requires, λ tidy. ran_none _ c.args.calls.now (vec_items c.args.answers.now) _ c.requires)

pub loop-call-preserved : goal.loop-call-preserved
loop-call-preserved g c =
    let rs = vec_items c.loop-call.answers in
    let a = c.in_ok-answer.answer in
    let e : vec_items c.push.new.self ≡ rs ++ (a ∷ []) = c.in_ok-push.ensures.items ∙ ap (λ (x : List Answer). x ++ (a ∷ [])) c.in_ok-reserve.ensures.items in (
      omega (arith, length_push rs a, ap length e, c.loop-call.invariant.0),
      λ tidy. ran_more c.args.calls.now rs (vec_items c.push.new.self) c.loop-call.call-index c.call-item.result a c.loop-call.invariant.0 c.loop-call-test.true c.call-item.is e (c.loop-call.invariant.1 tidy) (c.in_ok-answer.ensures tidy),
    )
