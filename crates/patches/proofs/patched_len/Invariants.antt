use Rattle.std.proofs.Common.{◌≡◌, ◌^◌, ◌<◌, take}
use Rattle.patches.specs.Patches.{patched_length}
use Rattle.patches.proofs.patched_len.Given as goal

abbrev pub invariant-loop-patch : goal.invariant-loop-patch
invariant-loop-patch l = (l.n ≡ patched_length l.old_len (take l.patch-index l.patches)) × (l.n < 2 ^ 64)
