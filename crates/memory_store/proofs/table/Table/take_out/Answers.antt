use Rattle.std.proofs.Common.{◌<◌, length, vec_items, sym, ◌∙◌, arith, rules}
use Rattle.memory_store.specs.Memories.{packed}
use Rattle.memory_store.specs.TablesLemmas.{ends, take_out, gap_there}
use Rattle.memory_store.proofs.table.Table.take_out.Goals as goal

pub remove_bytes-requires : goal.remove_bytes-requires
remove_bytes-requires c =
    let t = c.args.self.now in
    let within : c.args.i < length (vec_items t.slots) = search rules in
    omega (arith, ends _ _ c.args.i _ c.start_of-at.ensures (packed t) c.remove-slot.result _ within c.remove-slot.ensures.value, t.row.ok.0)

pub invariant_of-self : goal.invariant_of-self
invariant_of-self c =
    let t = c.args.self.now in
    let within : c.args.i < length (vec_items t.slots) = search rules in
    let both = take_out _ _ c.args.i _ c.start_of-at.ensures (packed t) c.remove-slot.result _ within c.remove-slot.ensures.value _ _ c.remove-slot.ensures.by_index.2 c.remove_bytes.ensures.items in
    record {
      few = omega arith;
      small = omega arith;
      room = (omega arith, omega arith);
      ordered = both.0.ordered;
      packed = both.0.fills ∙ sym c.remove_bytes.new.row.ok.0;
    }

pub returns-clause-contents : goal.returns-clause-contents
returns-clause-contents c =
    let t = c.args.self.now in
    let within : c.args.i < length (vec_items t.slots) = search rules in
    (take_out _ _ c.args.i _ c.start_of-at.ensures (packed t) c.remove-slot.result _ within c.remove-slot.ensures.value _ _ c.remove-slot.ensures.by_index.2 c.remove_bytes.ensures.items).1

pub returns-clause-place : goal.returns-clause-place
returns-clause-place c =
    let t = c.args.self.now in
    let within : c.args.i < length (vec_items t.slots) = search rules in
    gap_there _ _ c.args.i _ c.start_of-at.ensures (packed t) c.remove-slot.result _ within c.remove-slot.ensures.value _ c.remove-slot.ensures.by_index.2
