use Rattle.readers.proofs.Agreeing.{agrees}
use Rattle.readers.proofs.Turns.{extracted, extracted-at}
use Rattle.readers.proofs.read_seek.read_from_end.Goals as goal

pub returns : goal.returns
returns g c =
    let s = c.in_ok-size.ensures in
    let read = extracted g.R.Reader _ c.args.reader.now c.seek.new.self c.read_items.new.reader _ _ c.requires s.answer s.place _ _ _ _ _ c.read_items.ensures.read in
    record {
      read = read;
      place = extracted-at g.R.Reader _ c.args.reader.now c.seek.new.self c.read_items.new.reader _ _ c.requires s.answer s.place _ _ c.read_items.ensures.place;
      agrees = agrees (g.R.Reader.value c.args.reader.now) _ _ _ _ _ _ read;
    }
