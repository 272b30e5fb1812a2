use Rattle.std.proofs.Common.{◌≡◌, ◌++◌, take, vec_items}
use Rattle.std.specs.List.{flat_map}
use Rattle.transcript.specs.Answers.{key_text}
use Rattle.transcript.proofs.answer.write_keys.Given as goal

abbrev pub invariant-loop-key : goal.invariant-loop-key
invariant-loop-key l = vec_items l.out ≡ vec_items l.initial.out ++ flat_map key_text (take l.key-index l.keys)
