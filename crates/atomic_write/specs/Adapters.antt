-- The adapter as a store.
use Rattle.std.specs.Prelude.{suc, Bool, false}
use Rattle.storage.specs.declared.storage_sync.ReadableStorageTraits.{Ghosts}
use Rattle.atomic_write.specs.declared.atomic_write.AtomicWriteStorageAdapter.{AtomicWriteStorageAdapter}
use Rattle.atomic_write.specs.Exports.{raised_verdict}

-- its meaning, over a store with the meaning m. It is not tidy, as an export refused at its second step leaves the temporary key; its erasures are as tidy as the store's
abbrev pub over : {S : Type 0} → Bool → Ghosts S → Ghosts (AtomicWriteStorageAdapter S)
over t m = record { contents = λ a. m.contents a.storage; verdict = λ a. raised_verdict (m.verdict a.storage); tidy = t; inplace = false; layers = suc m.layers }
