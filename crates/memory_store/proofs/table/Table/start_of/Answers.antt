use Rattle.std.proofs.Common.{List, take, vec_items, ap, ◌∙◌, arith}
use Rattle.memory_store.specs.declared.slot.Slot.{Slot}
use Rattle.memory_store.specs.Slots.{lens}
use Rattle.memory_store.specs.Cuts.{sum_by-lens, lens-take}
use Rattle.memory_store.proofs.table.Table.start_of.Goals as goal

pub bytes_in-requires : goal.bytes_in-requires
bytes_in-requires c =
    let t = c.args.self.now in
    let within = lens-take (vec_items t.slots) c.args.i in
    let e = sum_by-lens (take c.args.i c.as_slice.result.now) ∙ ap (λ (ss : List Slot). lens (take c.args.i ss)) c.as_slice.ensures.value in
    omega (arith, within, e, t.packed, t.small)

pub returns : goal.returns
returns c =
    c.bytes_in.ensures ∙ sum_by-lens (take c.args.i c.as_slice.result.now) ∙ ap (λ (ss : List Slot). lens (take c.args.i ss)) c.as_slice.ensures.value
