use Rattle.std.proofs.Common.{rules}
use Rattle.memory_store.proofs.Shifts.{closed}
use Rattle.memory_store.proofs.row.remove_bytes.Goals as goal

pub returns : goal.returns
returns c =
    record {
      items = closed c.args.row.now.items c.copy_within.new.self.items _ c.args.at c.args.n _ (search rules) (search rules) (search rules) c.truncate.ensures.items;
      len = search rules;
      capacity = search rules;
    }
