use Rattle.std.proofs.Common.{◌≡◌, ℕ, Option, take, Some, ap, ◌∙◌, subst}
use Rattle.std.specs.Result.{result_ok}
use Rattle.keys.specs.StoreKeys.{text}
use Rattle.storage.specs.Contents.{found}
use Rattle.memory_store.specs.Tables.{Kept, tabled}
use Rattle.memory_store.specs.Memories.{renamed}
use Rattle.memory_store.proofs.Shifts.{refilled}
use Rattle.memory_store.proofs.memory_store.writable.MemoryStoreAtomicRenameStorageTraits.rename.Goals as goal

pub returns : goal.returns
returns c =
    let t = c.args.self.now.table in
    let got : c.copy_out.result ≡ Some c.in_ok-n.n = c.ok_or.ensures.ok_part ∙ ap result_ok c.in_ok-n.was in
    let kept = subst (λ (o : Option ℕ). Kept o (found (text c.args.source.now) (tabled t)) c.copy_out.new.out) got c.copy_out.ensures in
    let there = c.as_slice.ensures.value ∙ refilled _ _ _ (c.copy_out.auto.out ∙ c.as_mut_slice.ensures.len) in
    renamed t c.remove.new.self c.replace.new.self _ _ _ _ _ kept.0 (ap (take c.in_ok-n.n) there) c.remove.ensures c.replace.ensures
