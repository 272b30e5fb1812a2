-- An export that the power fails between its steps.
use Rattle.std.proofs.Common.{refl}
use Rattle.storage.specs.Contents.{same, earlier, found, put}
use Rattle.keys.specs.ByteOrder.{compare_bytes}
use Rattle.layers.specs.Countdown.{counted}
use Rattle.storage.specs.Faults.{own}
use Rattle.storage.specs.declared.fault.Cause.TheVariants.{Device, Exists}
use Rattle.atomic_write.specs.Exports.{temporary}
use Rattle.runs.specs.Labels.{is_temporary}
use Rattle.runs.specs.Laws.{begun_in, finished_in, standing_in, cleared_in, erased_in}
use Rattle.runs.specs.Performed.{refused, unfinished, idle, next}
use Rattle.runs.specs.RunExamples.{RunExamples}

pub run_examples : RunExamples
unfolding counted begun_in finished_in standing_in cleared_in erased_in is_temporary temporary same earlier found put compare_bytes
run_examples =
    record {
      taken = λ v w. refl;
      cut = λ v w. refl;
      device = refl;
      ran = λ n v. next (_, refl, unfinished (own Device) refl refl) (next (_, refl, refused (own Exists) refl refl) idle);
      exists = refl;
      begun = λ v. refl;
      finished = λ v. refl;
      standing = λ v. refl;
      cleared = λ v. refl;
    }
