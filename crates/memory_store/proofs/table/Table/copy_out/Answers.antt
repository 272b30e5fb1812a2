use Rattle.std.proofs.Common.{sym, arith}
use Rattle.storage.proofs.Sizes.{found_most}
use Rattle.memory_store.specs.Memories.{packed}
use Rattle.memory_store.specs.Rooms.{ordered, whole}
use Rattle.memory_store.proofs.table.Table.copy_out.Goals as goal

pub overwrite-requires : goal.overwrite-requires
overwrite-requires c =
    let t = c.args.self.now in
    omega (arith, found_most _ _ _ (ordered _ _ (packed t)) (sym c.in_ok-value.ensures), whole _ _ (packed t), t.row.ok.0, t.small)
