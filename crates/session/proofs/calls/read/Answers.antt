use Rattle.std.proofs.Common.{◌≡◌, length, Some, sym, refl, ap, ◌∙◌, arith}
use Rattle.std.proofs.lemmas.List.{with_items_is}
use Rattle.transcript.specs.declared.answer.Answer.TheVariants.{Refused}
use Rattle.keys.specs.StoreKeys.{text}
use Rattle.storage.specs.Contents.{found}
use Rattle.session.specs.Calls.{no_label, there, refusal_of}
use Rattle.session.proofs.Values.{whole-read}
use Rattle.session.proofs.calls.read.Goals as goal

pub returns-in-Err : goal.returns-in-Err
returns-in-Err g c = no_label c.in-Err.e c.in-Err.ensures (ap Refused (c.refusal.ensures ∙ ap refusal_of c.from.ensures))

pub returns-in-Ok-Some : goal.returns-in-Ok-Some
returns-in-Ok-Some g c =
    let cs = g.S.ReadableStorageTraits.contents c.args.store.now in
    let v = c.in_ok-value.value in
    let h = whole-read (found (text c.in-Ok.key) cs) c.in-Some.size c.as_mut_slice.result.now c.get.new.out c.in-Some.ensures (omega (arith, c.as_mut_slice.ensures.len, c.in_ok-value.ensures.len)) c.in-Ok-Some.ensures.output in
    let l : length c.get.new.out ≡ v.len = omega (arith, h.1, c.in_ok-value.ensures.len) in
    there _ (ap (λ k. found k cs) (sym c.in-Ok.ensures.2) ∙ (h.0 ∙ ap Some (sym (with_items_is v c.get.new.out l)))) refl
