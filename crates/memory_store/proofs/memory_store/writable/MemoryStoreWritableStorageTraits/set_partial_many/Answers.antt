use Rattle.std.proofs.Common.{◌≡◌, IfOk, Result, ℕ, take, ap, ◌∙◌, subst, sym, rules}
use Rattle.std.proofs.lemmas.Result.{err_from_is_err_and}
use Rattle.keys.specs.StoreKeys.{text}
use Rattle.ranges.specs.Refusals.{told}
use Rattle.patches.specs.declared.PatchError.{PatchError}
use Rattle.patches.specs.Patches.{laid_all, patch_refusal}
use Rattle.storage.specs.Contents.{bytes_of, found}
use Rattle.memory_store.specs.Tables.{tabled}
use Rattle.ranges.proofs.Questions.{yes_from_unless}
use Rattle.storage.specs.Faults.{own}
use Rattle.storage.specs.declared.fault.Cause.TheVariants.{Full}
use Rattle.memory_store.specs.Memories.{packed, table-room}
use Rattle.memory_store.specs.Rooms.{ordered}
use Rattle.storage.proofs.Mapped.{mapped_ok, mapped_err}
use Rattle.memory_store.proofs.OffsetWrites.{no_patches, too_long, put_laid}
use Rattle.memory_store.proofs.Shifts.{refilled}
use Rattle.memory_store.proofs.memory_store.writable.MemoryStoreWritableStorageTraits.set_partial_many.Goals as goal

pub returns-then-is_empty : goal.returns-then-is_empty
returns-then-is_empty c =
    no_patches _ _ _ _ _ (yes_from_unless _ _ _ c.in_ok-check_patches.ensures.answer).0 c.if-is_empty.ensures (table-room c.args.self.now.table)

pub returns-in_err-n : goal.returns-in_err-n
returns-in_err-n c =
    let p = err_from_is_err_and c.from_residual-in_err-n.result c.from_residual-in_err-n.ensures.1 in
    let m = mapped_err _ c.patched.result _ _ c.map_err.ensures.cases c.in_err-n.was in
    let full : c.in_err-n.field-0.0 ≡ own Full = search rules in
    let t = c.args.self.now.table in
    rw p.1
    (too_long _ _ _ _ (yes_from_unless _ _ _ c.in_ok-check_patches.ensures.answer).0 c.if-is_empty.ensures _ m.0 _ (ordered _ _ (packed t))
    (ap (told patch_refusal) (sym m.1) ∙ c.patched.ensures.answer) (p.2 ∙ full))

pub returns : goal.returns
returns c =
    let done = mapped_ok _ c.patched.result _ _ c.map_err.ensures.cases c.in_ok-n.was in
    let laid = laid_all c.args.source.now c.args.patches.now (bytes_of (found (text c.args.key.now) (tabled c.args.self.now.table))) in
    let front = subst (λ (r : Result ℕ PatchError). IfOk r (λ n. take n c.patched.new.out ≡ laid)) done c.patched.ensures.front in
    let there = c.as_slice.ensures.value ∙ refilled _ _ _ (c.patched.auto.out ∙ c.as_mut_slice.ensures.len) in
    put_laid _ _ _ _ c.replace.new.self _ _ _ (yes_from_unless _ _ _ c.in_ok-check_patches.ensures.answer).0 c.if-is_empty.ensures
    (ap (take c.in_ok-n.n) there ∙ front) c.replace.ensures
