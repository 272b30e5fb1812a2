use Rattle.std.proofs.Common.{◌≡◌, suc, true, length, vec_items}
use Rattle.runs.specs.Events.{events}
use Rattle.runs.specs.Performed.{Ran}
use Rattle.runs.proofs.run.record.Given as goal

abbrev pub invariant-loop-call : goal.invariant-loop-call
invariant-loop-call g l =
    (length (vec_items l.answers) ≡ l.call-index)
    × (g.S.ReadableStorageTraits.tidy ≡ true → Ran (suc g.S.ReadableStorageTraits.layers) (g.S.ReadableStorageTraits.contents l.initial.adapter.storage) (events l.calls (vec_items l.answers)) (g.S.ReadableStorageTraits.contents l.adapter.storage))
