use Rattle.std.proofs.Common.{◌≡◌, length, take}
use lib.Seq.{paste}
use Rattle.extraction.specs.Extracts.{items}
use Rattle.extraction.proofs.copy_ranges.Given as goal

abbrev pub invariant-loop-range : goal.invariant-loop-range
invariant-loop-range l =
    (l.at ≡ length (items l.bytes (take l.range-index l.ranges)))
    × (l.out ≡ paste l.initial.out 0 (items l.bytes (take l.range-index l.ranges)) l.at)
