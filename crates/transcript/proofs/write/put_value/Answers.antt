use Rattle.std.proofs.Common.{rules, append_assoc}
use Rattle.std.proofs.lemmas.Result.{IfOk-equal}
use Rattle.transcript.specs.Written.{value_text}
use Rattle.transcript.proofs.write.put_value.Goals as goal

pub returns-in_ok-push-2 : goal.returns-in_ok-push-2
unfolding value_text
returns-in_ok-push-2 c = rw (← c.if-is_printable.ensures) (search (rules, append_assoc))

pub returns-in_ok-push-3 : goal.returns-in_ok-push-3
unfolding value_text
returns-in_ok-push-3 c = rw (← c.if-is_printable.ensures) (search (rules, IfOk-equal, append_assoc))
