use Rattle.std.proofs.Common.{◌≡◌, ◌≤◌, length, take}
use Rattle.ranges.specs.Buffers.{fronted}
use Rattle.patches.specs.Patches.{laid_all}
use Rattle.patches.proofs.lay_all.Given as goal

abbrev pub invariant-loop-patch : goal.invariant-loop-patch
invariant-loop-patch l =
    (l.n ≡ length (laid_all l.source (take l.patch-index l.patches) (take l.old_len l.initial.work)))
    × (l.work ≡ fronted (laid_all l.source (take l.patch-index l.patches) (take l.old_len l.initial.work)) l.initial.work)
    × (l.n ≤ length l.initial.work)
