use Rattle.std.proofs.Common.{◌++◌, vec_items, sym, ap, ◌∙◌, arith}
use Rattle.std.proofs.lemmas.List.{append-nil}
use Rattle.script.proofs.Hexadecimal.{decode_step, unhex_short}
use Rattle.script.proofs.hex.decode.Goals as goal

pub loop-pair-preserved : goal.loop-pair-preserved
loop-pair-preserved c =
    let s = c.in-Some.ensures.steps in (
      decode_step (vec_items c.push.new.self) (vec_items c.loop-pair.out) c.in-Some.pair.now c.loop-pair.pair-iterator.rest.now c.next.new.self.rest.now _ c.pair_value.result (s.1.1 ∙ c.loop-pair.invariant.1) s.1.0 c.pair_value.ensures c.in_ok-push.ensures.items c.loop-pair.invariant.0,
      s.0 ∙ c.loop-pair.invariant.1,
    )

pub returns : goal.returns
returns c =
    let s = c.in-None.ensures.steps in
    sym (append-nil _) ∙ (ap (λ u. vec_items c.loop-pair.out ++ u) (sym (unhex_short c.loop-pair.pair-iterator.rest.now (omega (arith, s.1.0)))) ∙ c.loop-pair.invariant.0)
