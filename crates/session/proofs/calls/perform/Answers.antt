use Rattle.std.proofs.Common.{◌≡◌, IfOk, sym, refl, ◌∙◌, subst}
use Rattle.std.proofs.lemmas.Result.{IfOk-weaker}
use Rattle.script.specs.Commands.{call_of}
use Rattle.session.specs.Calls.{ExportAnswered, ReadAnswered, ListAnswered, Performed}
use Rattle.session.proofs.calls.perform.Goals as goal

pub returns-in_ok-bytes-in-Export : goal.returns-in_ok-bytes-in-Export
returns-in_ok-bytes-in-Export g c = λ t.
    let m = g.S.ReadableStorageTraits in
    let s = c.args.look_box.now.storage in
    let z = c.export.new.look_box.storage in
    let e = c.as_slice.ensures.value ∙ c.in_ok-bytes-in-Export.ensures in
    subst (λ k. Performed m (call_of k) s z c.export.result) (sym c.in-Export.is)
    (subst (λ v. ExportAnswered m c.in-Export.label.now v s z c.export.result) e (c.export.ensures t))

pub returns-in-Read : goal.returns-in-Read
returns-in-Read g c = λ t.
    let m = g.S.ReadableStorageTraits in
    let s = c.args.look_box.now.storage in
    subst (λ k. IfOk c.read.result (λ a. Performed m (call_of k) s s a)) (sym c.in-Read.is)
    (IfOk-weaker c.read.result (λ a. ReadAnswered c.in-Read.label.now (m.contents s) a) (λ a. (s ≡ s) × ReadAnswered c.in-Read.label.now (m.contents s) a) (λ a h. (refl, h)) c.read.ensures)

pub returns-in-List : goal.returns-in-List
returns-in-List g c = λ t.
    let m = g.S.ReadableStorageTraits in
    let s = c.args.look_box.now.storage in
    subst (λ k. IfOk c.list.result (λ a. Performed m (call_of k) s s a)) (sym c.in-List.is)
    (IfOk-weaker c.list.result (λ a. ListAnswered (m.contents s) a) (λ a. (s ≡ s) × ListAnswered (m.contents s) a) (λ a h. (refl, h)) c.list.ensures)
