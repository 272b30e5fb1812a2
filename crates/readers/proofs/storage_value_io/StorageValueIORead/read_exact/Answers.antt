use Rattle.std.proofs.Common.{rules}
use Rattle.readers.proofs.OneRange.{read_fits}
use Rattle.readers.proofs.storage_value_io.StorageValueIORead.read_exact.Goals as goal

pub overflow_add-self : goal.overflow_add-self
overflow_add-self g c =
    let b = read_fits _ _ _ _ _ _ (g.met.S.ReadableStorageTraits.sound c.args.self.now.storage) c.in_ok-n.ensures.answer c.in-Some.is in
    search rules
