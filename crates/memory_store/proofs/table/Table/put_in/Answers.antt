use Rattle.std.proofs.Common.{◌≡◌, true, is_ok, vec_items, vec_len, ◌+◌, sym, refl, ◌∙◌, arith}
use Rattle.std.proofs.lemmas.Bool.{cond-true}
use Rattle.memory_store.specs.Cuts.{lens-take}
use Rattle.memory_store.specs.Memories.{packed}
use Rattle.memory_store.specs.TablesLemmas.{put_in}
use Rattle.memory_store.proofs.table.Table.put_in.Goals as goal

pub insert_bytes-requires-clause-within : goal.insert_bytes-requires-clause-within
insert_bytes-requires-clause-within c =
    let t = c.args.self.now in
    omega (arith, c.start_of-at.ensures, lens-take (vec_items t.slots) c.args.i, t.packed)

pub invariant_of-self : goal.invariant_of-self
invariant_of-self c =
    let t = c.args.self.now in
    let ok : is_ok c.insert.result ≡ true = c.insert.ensures.succeeds (omega arith) in
    let both = put_in _ _ c.args.i _ c.start_of-at.ensures (packed t) _ c.args.value.now refl c.requires.place.1 _ _ (c.insert.ensures.items ∙ cond-true _ _ _ ok) c.insert_bytes.ensures.items in
    record {
      few = omega (arith, c.insert.ensures.len, cond-true _ (vec_len t.slots + 1) (vec_len t.slots) ok);
      small = omega arith;
      room = (omega arith, omega arith);
      ordered = both.0.ordered;
      packed = both.0.fills ∙ sym c.insert_bytes.new.row.ok.0;
    }

pub returns : goal.returns
returns c =
    let t = c.args.self.now in
    let ok : is_ok c.insert.result ≡ true = c.insert.ensures.succeeds (omega arith) in
    (put_in _ _ c.args.i _ c.start_of-at.ensures (packed t) _ c.args.value.now refl c.requires.place.1 _ _ (c.insert.ensures.items ∙ cond-true _ _ _ ok) c.insert_bytes.ensures.items).1
