-- What a write through the countdown leaves.
use Rattle.std.specs.Prelude.{◌≡◌, ◌+◌, ◌<◌, ◌⊎◌, List, Err, Result, MatchResult}
use Rattle.std.specs.Borrow.{MutBor}
use Rattle.std.specs.Fn.{Once, FnOnceReturnsAtMut}
use Rattle.keys.specs.Text.{Bytes}
use Rattle.patches.specs.declared.Patch.{Patch}
use Rattle.storage.specs.Faults.{own}
use Rattle.storage.specs.declared.fault.Cause.TheVariants.{Device}
use Rattle.storage.specs.declared.fault.Fault.{Fault}
use Rattle.storage.specs.Writes.{Write, Settled, OffsetWritten}
use Rattle.storage.specs.declared.storage_sync.ReadableStorageTraits.{Ghosts}
use Rattle.layers.specs.Countdown.{counted, Counts}
use Rattle.layers.specs.declared.countdown.Countdown.{Countdown}

-- an accepted write lowers it by one, a refused one leaves it; the number for the next power-on stays
abbrev pub Lowered : {S : Type 0} → Result (Unit {0}) Fault → Countdown S → Countdown S → Type 0
Lowered r s s' = MatchResult r (λ _. s'.left + 1 ≡ s.left) (λ _. s'.left ≡ s.left) × (s'.again ≡ s.again)

-- the write as the interface has it, of the layer's own contents and verdict
abbrev pub WroteThrough : {S : Type 0} → Ghosts S → Write → Result (Unit {0}) Fault → Countdown S → Countdown S → Type 0
WroteThrough m w r s s' =
    Settled m.tidy m.inplace w r (m.contents s.storage) (m.contents s'.storage) (counted s.left (m.verdict s.storage)) (counted s'.left (m.verdict s'.storage))

-- the same of an offset write, with the work buffer
abbrev pub WroteAtThrough : {S : Type 0} → Ghosts S → Bytes → Bytes → List Patch → Result (Unit {0}) Fault → Countdown S → Countdown S → Bytes → Bytes → Type 0
WroteAtThrough m k d ps r s s' work work' =
    OffsetWritten m.tidy m.inplace k d ps r (m.contents s.storage) (m.contents s'.storage) (counted s.left (m.verdict s.storage)) (counted s'.left (m.verdict s'.storage)) work work'

-- a write through the countdown: 10 where none is left, and all as it was; else what the store below answered, counted
abbrev pub Written : {S F : Type 0} → Once F (MutBor S × Unit {0}) (Result (Unit {0}) Fault × (MutBor S × Unit {0})) → F → Result (Unit {0}) Fault → Countdown S → Countdown S → Type 0
Written g write r s s' =
    ((s.left ≡ 0) × (r ≡ Err (own Device)) × (s' ≡ s)) ⊎ ((a : Result (Unit {0}) Fault) × (0 < s.left) × FnOnceReturnsAtMut g write s.storage a s'.storage × Counts s.left s'.left a r × (s'.again ≡ s.again))
