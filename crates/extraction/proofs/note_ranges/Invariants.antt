use Rattle.std.proofs.Common.{◌≡◌, ◌++◌, length, take, drop}
use Rattle.extraction.specs.Extracts.{items, notes_from}
use Rattle.extraction.proofs.note_ranges.Given as goal

abbrev pub invariant-loop-i : goal.invariant-loop-i
invariant-loop-i l =
    (l.at ≡ length (items l.bytes (take l.i l.ranges)))
    × (l.notes ≡ notes_from 0 l.bytes (take l.i l.ranges) ++ drop l.i l.initial.notes)
