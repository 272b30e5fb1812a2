use Rattle.std.proofs.Common.{◌≡◌, true, false, Err, refl, ap, ◌∙◌, arith}
use Rattle.keys.specs.Text.{Bytes}
use Rattle.keys.specs.StoreKeys.{text}
use Rattle.storage.specs.Contents.{put, without, same}
use Rattle.storage.proofs.Sizes.{put_again}
use Rattle.memory_store.specs.Tables.{room, tabled}
use Rattle.memory_store.specs.Memories.{packed}
use Rattle.memory_store.specs.Rooms.{ordered, roomy, large, sizes-at}
use Rattle.memory_store.specs.TablesLemmas.{ends}
use Rattle.memory_store.proofs.table.Table.replace_at.Goals as goal

pub overflow_sub-used : goal.overflow_sub-used
overflow_sub-used c =
    let t = c.args.self.now in
    omega (arith, ends _ _ c.args.i _ refl (packed t) _ _ c.requires.0 c.index.ensures, t.row.ok.0)

pub returns-then-value-used : goal.returns-then-value-used
returns-then-value-used c =
    let t = c.args.self.now in
    let n = sizes-at _ _ (packed t) c.args.i _ _ _ c.args.value.now c.requires.0 c.index.ensures (c.requires.1 _ c.index.ensures) in
    let e = ends _ _ c.args.i _ refl (packed t) _ _ c.requires.0 c.index.ensures in
    let full : room (put (text c.args.key.now) c.args.value.now (tabled t)) ≡ false = large _ (omega (arith, n.1, e, t.row.ok.0)) in
    record { answer = rw full (ap Err c.own.ensures); contents = rw full refl }

pub returns : goal.returns
returns c =
    let t = c.args.self.now in
    let n = sizes-at _ _ (packed t) c.args.i _ _ _ c.args.value.now c.requires.0 c.index.ensures (c.requires.1 _ c.index.ensures) in
    let key = c.requires.1 _ c.take_out.ensures.value in
    let fits : room (put (text c.args.key.now) c.args.value.now (tabled t)) ≡ true = roomy _ (omega (arith, n.0, t.few, t.slots.ok.0)) (omega (arith, n.1, t.row.ok.0)) in
    record {
      answer = rw fits refl;
      contents = rw fits
          (c.put_in.ensures
          ∙ ap (put _ _) (c.take_out.ensures.contents ∙ ap (λ (k : Bytes). without (λ j. same j k) (tabled t)) key)
          ∙ put_again _ _ _ (ordered _ _ (packed t)));
    }
