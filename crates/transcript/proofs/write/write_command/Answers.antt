use Rattle.std.proofs.Common.{OnOk, vec_items, rules, sym, subst}
use Rattle.script.specs.Commands.{call_of}
use Rattle.transcript.specs.Written.{WrittenAs, written}
use Rattle.transcript.proofs.RoundTrip.{list_back}
use Rattle.transcript.proofs.write.write_command.Goals as goal

pub returns-in-List : goal.returns-in-List
unfolding written
returns-in-List c =
    subst (λ k. OnOk c.extend_from_slice.result (WrittenAs (call_of k) (vec_items c.args.out.now) (vec_items c.extend_from_slice.new.self))) (sym c.in-List.is)
    (search (rules, list_back))
