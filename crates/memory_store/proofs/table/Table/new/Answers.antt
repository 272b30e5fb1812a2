use Rattle.std.proofs.Common.{◌≡◌, [], vec_items, ap, ◌∙◌, rules}
use Rattle.storage.specs.Contents.{ascending}
use Rattle.memory_store.specs.Slots.{slot_keys, lens, cut}
use Rattle.memory_store.proofs.table.Table.new.Goals as goal

pub invariant_of-result : goal.invariant_of-result
unfolding ascending slot_keys lens
invariant_of-result c =
    let none : vec_items c.in_ok-slots.slots ≡ [] = search rules in
    record {
      few = search rules;
      small = search rules;
      room = (search rules, search rules);
      ordered = ap (λ ss. ascending (slot_keys ss)) none;
      packed = ap lens none ∙ search rules;
    }

pub returns : goal.returns
unfolding cut
returns c =
    let none : vec_items c.in_ok-slots.slots ≡ [] = search rules in
    ap (λ ss. cut ss (vec_items c.in_ok-row.row)) none
