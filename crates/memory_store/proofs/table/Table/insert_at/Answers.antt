use Rattle.std.proofs.Common.{◌≡◌, true, false, refl, ap, Err, arith}
use Rattle.keys.specs.StoreKeys.{text}
use Rattle.storage.specs.Contents.{put}
use Rattle.memory_store.specs.Tables.{room, tabled}
use Rattle.memory_store.specs.Memories.{packed}
use Rattle.memory_store.specs.Rooms.{roomy, many, large, sizes_absent}
use Rattle.memory_store.specs.TablesLemmas.{absent_there}
use Rattle.memory_store.proofs.table.Table.insert_at.Goals as goal
use Rattle.memory_store.proofs.table.Table.insert_at.Goals.{then-len-eq-MAX_KEYS-via-then-len-eq-MAX_KEYS, then-len-eq-MAX_KEYS-via-else-len-eq-MAX_KEYS+then-value-len}

pub returns-then-len-eq-MAX_KEYS : goal.returns-then-len-eq-MAX_KEYS
returns-then-len-eq-MAX_KEYS c =
    let t = c.args.self.now in
    let n = sizes_absent _ _ (packed t) _ c.args.value.now (absent_there _ _ c.args.i _ refl (packed t) _ c.requires.1) in
    let full : room (put (text c.args.key.now) c.args.value.now (tabled t)) ≡ false =
    elim c.then-len-eq-MAX_KEYS.branch [
      | then-len-eq-MAX_KEYS-via-then-len-eq-MAX_KEYS w ↦ many _ (omega (arith, n.0, t.slots.ok.0))
      | then-len-eq-MAX_KEYS-via-else-len-eq-MAX_KEYS+then-value-len w ↦ large _ (omega (arith, n.1, t.row.ok.0))
    ] in
    record { answer = rw full (ap Err c.own.ensures); contents = rw full refl }

pub returns : goal.returns
returns c =
    let t = c.args.self.now in
    let n = sizes_absent _ _ (packed t) _ c.args.value.now (absent_there _ _ c.args.i _ refl (packed t) _ c.requires.1) in
    let fits : room (put (text c.args.key.now) c.args.value.now (tabled t)) ≡ true = roomy _ (omega (arith, n.0, t.slots.ok.0)) (omega (arith, n.1, t.row.ok.0)) in
    record { answer = rw fits refl; contents = rw fits c.put_in.ensures }
