use Rattle.std.proofs.Common.{◌≡◌, true, is_ok, ◌∙◌, rules}
use Rattle.std.proofs.lemmas.Bool.{cond-true}
use Rattle.memory_store.proofs.Shifts.{refilled, opened}
use Rattle.memory_store.proofs.row.insert_bytes.Goals as goal

pub returns : goal.returns
returns c =
    let ok : is_ok c.extend_from_slice.result ≡ true = c.extend_from_slice.ensures.succeeds c.requires.room in
    record {
      items =
          refilled _ _ _ (c.overwrite.auto.s ∙ c.as_mut_slice.ensures.len)
          ∙ opened c.args.row.now.items c.args.value.now c.extend_from_slice.new.self.items c.copy_within.new.self.items _ c.args.at (search rules)
          (c.extend_from_slice.ensures.items ∙ cond-true _ _ _ ok) (search rules) (search rules);
      len = search rules;
      capacity = search rules;
    }
