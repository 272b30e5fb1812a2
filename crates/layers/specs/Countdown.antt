-- The verdict of a store whose power fails after a number of writes.
use Rattle.std.specs.Prelude.{◌≡◌, ℕ, ◌+◌, ◌<◌, cond, Some, Ok, Err, Result, ◌==◌}
use Rattle.std.specs.Option.{option_map}
use Rattle.storage.specs.Faults.{own, raised}
use Rattle.storage.specs.Writes.{Verdict}
use Rattle.storage.specs.declared.fault.Cause.TheVariants.{Device}
use Rattle.storage.specs.declared.fault.Fault.{Fault}

-- with n writes left: 10 where none is, else what the store below says, one layer deeper
unfoldable pub counted : ℕ → Verdict → Verdict
counted n v w = cond (n == 0) (Some (own Device)) (option_map raised (v w))

-- 10 where no write is left
abbrev pub Powered : ℕ → Result (Unit {0}) Fault → Type 0
Powered n (Ok u) = 0 < n
Powered n (Err f) = (n ≡ 0) × (f ≡ own Device)

-- an answer from below, with n writes left before and m after: a write that was taken counts, a refusal is passed up
abbrev pub Counts : ℕ → ℕ → Result (Unit {0}) Fault → Result (Unit {0}) Fault → Type 0
Counts n m (Ok u) r = (m + 1 ≡ n) × (r ≡ Ok u)
Counts n m (Err f) r = (m ≡ n) × (r ≡ Err (raised f))
