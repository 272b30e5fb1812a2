use Rattle.std.proofs.Common.{◌∙◌}
use Rattle.readers.proofs.Seeking.{start_sought, moved_start}
use Rattle.readers.proofs.read_seek.seek_item.Goals as goal

pub returns : goal.returns
returns g c =
    let a = c.seek.ensures.answer ∙ start_sought _ _ _ _ c.requires.there c.requires.small c.in_ok-item_seek.ensures in
    record { answer = a; place = moved_start g.R.Reader _ _ _ _ _ a c.seek.ensures.place }
