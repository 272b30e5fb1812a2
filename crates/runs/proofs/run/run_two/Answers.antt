use Rattle.std.proofs.Common.{suc, vec_items, ap}
use Rattle.runs.proofs.Promised.{run_laws, two_run_laws}
use Rattle.runs.proofs.run.run_two.Goals as goal

pub returns : goal.returns
returns g c =
    let one = c.performed-first in
    let other = c.performed-second in
    record {
      first = λ tidy plain. run_laws c.args.calls.now (vec_items one.result.answers) plain (one.ensures.ran tidy);
      second = λ tidy plain. run_laws c.args.others.now (vec_items other.result.answers) plain (other.ensures.ran tidy);
      reached = (one.ensures.reached, other.ensures.reached);
      same =
          λ tidy-s tidy-r layers.
          two_run_laws (ap suc layers)
          (g.met.S.ReadableStorageTraits.sound c.args.one.now.storage).ascends
          (g.met.R.ReadableStorageTraits.sound c.args.other.now.storage).ascends
          (one.ensures.ran tidy-s)
          (other.ensures.ran tidy-r);
    }
