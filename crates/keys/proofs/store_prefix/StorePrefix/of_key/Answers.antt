use Rattle.std.proofs.Common.{rules}
use Rattle.keys.specs.Texts.{prefix_from_key}
use Rattle.keys.proofs.store_prefix.StorePrefix.of_key.Goals as goal

pub joined-requires : goal.joined-requires
joined-requires c = (search rules, λ _. prefix_from_key c.args.bytes.now (search rules) c.requires.1)
