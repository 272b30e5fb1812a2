use Rattle.std.proofs.Common.{sym, subst}
use Rattle.transcript.specs.declared.answer.Answer.TheVariants.{Refused}
use Rattle.session.specs.Calls.{ExportAnswered}
use Rattle.session.proofs.calls.export.Goals as goal

pub returns-in-Err : goal.returns-in-Err
returns-in-Err g c = λ t. subst (λ r. ExportAnswered g.S.ReadableStorageTraits c.args.label.now c.args.value.now c.args.look_box.now.storage c.set_labelled.new.look_box.storage (Refused r)) (sym c.refusal.ensures) (c.in-Err.ensures t)
