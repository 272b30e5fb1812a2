use Rattle.std.proofs.Common.{vec_items}
use Rattle.runs.proofs.Promised.{run_laws}
use Rattle.runs.proofs.run.run.Goals as goal

pub returns : goal.returns
returns g c =
    record {
      laws = λ tidy plain. run_laws c.args.calls.now (vec_items c.performed.result.answers) plain (c.performed.ensures.ran tidy);
      reached = c.performed.ensures.reached;
    }
