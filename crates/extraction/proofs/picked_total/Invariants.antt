use Rattle.std.proofs.Common.{◌≡◌, ◌^◌, ◌<◌, length, take}
use Rattle.extraction.specs.Extracts.{items}
use Rattle.extraction.proofs.picked_total.Given as goal

abbrev pub invariant-loop-range : goal.invariant-loop-range
invariant-loop-range l = (l.total ≡ length (items l.bytes (take l.range-index l.ranges))) × (l.total < 2 ^ 64)
