use Rattle.std.proofs.Common.{◌≡◌, drop}
use Rattle.patches.specs.Patches.{places_inside}
use Rattle.patches.proofs.check_places.Given as goal

abbrev pub invariant-loop-i : goal.invariant-loop-i
invariant-loop-i l = places_inside l.n l.i (drop l.i l.patches) ≡ places_inside l.n 0 l.patches
