use Rattle.std.proofs.Common.{refl, arith}
use Rattle.storage.specs.Contents.{all_before}
use Rattle.memory_store.specs.Slots.{slot_keys}
use Rattle.memory_store.proofs.Finding.{none_behind, all_before_lem, all_after_lem, found_here}
use Rattle.memory_store.proofs.find.find.Goals as goal

pub loop-low-init : goal.loop-low-init
unfolding all_before slot_keys
loop-low-init c = (omega arith, omega arith, refl, none_behind c.args.slots.now _ _ (omega arith))

pub loop-low-preserved-in-Less : goal.loop-low-preserved-in-Less
loop-low-preserved-in-Less c = (
  omega arith,
  c.loop-low.invariant.1,
  all_before_lem c.args.slots.now _ _ c.index-slots-mid.result _ (omega arith) refl c.requires c.in-Less.ensures,
  c.loop-low.invariant.3,
)

pub returns-in-Equal : goal.returns-in-Equal
returns-in-Equal c = (
  omega arith,
  found_here c.args.slots.now _ _ c.index-slots-mid.result _ (omega arith) refl c.requires c.in-Equal.ensures,
)

pub loop-low-preserved : goal.loop-low-preserved
loop-low-preserved c = (
  omega arith,
  omega arith,
  c.loop-low.invariant.2,
  all_after_lem c.args.slots.now _ _ c.index-slots-mid.result _ (omega arith) refl c.requires c.in-Greater.ensures,
)
