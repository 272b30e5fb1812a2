-- What a write through the countdown comes to, by what the store below does.
use Rattle.std.proofs.Common.{inl, inr, Result, MutBor, refl}
use Rattle.std.specs.Fn.{Once, FnOnceReturnsAtMut}
use Rattle.storage.specs.Faults.{own}
use Rattle.storage.specs.Writes.{Write}
use Rattle.storage.specs.declared.fault.Cause.TheVariants.{Device}
use Rattle.storage.specs.declared.fault.Fault.{Fault}
use Rattle.storage.specs.Stores.{Wrote}
use Rattle.storage.specs.declared.storage_sync.ReadableStorageTraits.{Ghosts}
use Rattle.layers.specs.Counts.{cut, through}
use Rattle.layers.specs.Lowering.{Written, WroteThrough}
use Rattle.layers.specs.declared.countdown.Countdown.{Countdown}

pub written_through :
    {S F : Type 0} (m : Ghosts S) (w : Write) (g : Once F (MutBor S × Unit {0}) (Result (Unit {0}) Fault × (MutBor S × Unit {0}))) (write : F) (r : Result (Unit {0}) Fault) (s s' : Countdown S)
    → Written g write r s s'
    → ((x x' : S) (a : Result (Unit {0}) Fault) → FnOnceReturnsAtMut g write x a x' → Wrote m w a x x')
    → WroteThrough m w r s s'
written_through m w g write r s s' (inl (none, is, same)) says = rw (is, same) (cut m w s.left s.storage (own Device) (none, refl))
written_through m w g write r s s' (inr (a, left, told, counts, again)) says =
    through m w s.left s'.left s.storage s'.storage s'.storage a r left (says s.storage s'.storage a told) refl counts
