use Rattle.std.proofs.Common.{◌≡◌, vec_items, rules}
use Rattle.std.specs.Option.{option_map}
use Rattle.memory_store.specs.Cuts.{key_given}
use Rattle.memory_store.proofs.table.Table.key_at.Goals as goal

pub returns : goal.returns
returns c =
    let keyed : c.map.result ≡ option_map (λ x. x.now.key) c.get.result = search rules in
    key_given _ _ (vec_items c.args.self.now.row) c.args.n c.get.result c.map.result c.deref.ensures.value c.get.ensures.lookup.3 keyed
