use Rattle.std.proofs.Common.{List, sym, refl, subst}
use Rattle.keys.specs.StoreKeys.{text}
use Rattle.memory_store.specs.declared.slot.Slot.{Slot}
use Rattle.memory_store.specs.Slots.{GapAt}
use Rattle.memory_store.specs.Memories.{packed}
use Rattle.memory_store.specs.TablesLemmas.{absent_kept}
use Rattle.memory_store.proofs.table.Table.remove.Goals as goal

pub returns-in_default : goal.returns-in_default
returns-in_default c =
    let gap = subst (λ (xs : List Slot). GapAt (text c.args.key.now) c.in_default.field-0 xs) c.as_slice.ensures.value c.in_default.ensures.1 in
    sym (absent_kept _ _ c.in_default.field-0 _ refl (packed c.args.self.now) _ gap)
