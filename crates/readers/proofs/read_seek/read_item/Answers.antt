use Rattle.std.proofs.Common.{◌≡◌, ◌+◌, ◌-◌, ◌≤◌, length, arith}
use Rattle.std.proofs.lemmas.Result.{err_from_is_err_and}
use Rattle.readers.proofs.Items.{item_refused, item_given, left_refused, left_given}
use Rattle.readers.proofs.read_seek.read_item.Goals as goal

pub returns-in_err-read_exact : goal.returns-in_err-read_exact
returns-in_err-read_exact g c =
    let room : c.args.at + c.item_len-len.result ≤ length c.args.out.now = omega (arith, c.if-len-out.false, c.requires.within) in
    let cut : c.args.at + c.item_len-len.result - c.args.at ≡ c.item_len-len.result = omega arith in
    let i =
    item_refused g.R.Reader _ _ _ _ _ _ c.args.reader.now c.seek_item.new.reader _ _ c.requires.value.there c.requires.size c.in_ok-seek_item.ensures.answer
    c.in_ok-seek_item.ensures.place c.item_len-len.ensures room c.if-not-noted.false cut _ _ _ c.in_err-read_exact.ensures.filled
    in
    let p = err_from_is_err_and c.from_residual-in_err-read_exact.result c.from_residual-in_err-read_exact.ensures.1 in
    rw (p.1, p.2)
    (record {
      answer = i.0;
      output = i.1;
      place =
          left_refused g.R.Reader _ _ _ _ _ c.args.out.now c.args.reader.now c.seek_item.new.reader _ _ c.requires.value.there c.requires.size c.in_ok-seek_item.ensures.answer
          c.in_ok-seek_item.ensures.place c.item_len-len.ensures room c.if-not-noted.false cut _ c.in_err-read_exact.ensures.place;
    })

pub returns : goal.returns
returns g c =
    let room : c.args.at + c.item_len-len.result ≤ length c.args.out.now = omega (arith, c.if-len-out.false, c.requires.within) in
    let cut : c.args.at + c.item_len-len.result - c.args.at ≡ c.item_len-len.result = omega arith in
    let i =
    item_given g.R.Reader _ _ _ _ _ _ c.args.reader.now c.seek_item.new.reader _ _ c.requires.value.there c.requires.size c.in_ok-seek_item.ensures.answer
    c.in_ok-seek_item.ensures.place c.item_len-len.ensures room c.if-not-noted.false cut _ c.in_ok-read_exact.ensures.filled
    in
    record {
      answer = i.0;
      output = i.1;
      place =
          left_given g.R.Reader _ _ _ _ _ c.args.out.now c.args.reader.now c.seek_item.new.reader _ _ c.requires.value.there c.requires.size c.in_ok-seek_item.ensures.answer
          c.in_ok-seek_item.ensures.place c.item_len-len.ensures room c.if-not-noted.false cut _ c.in_ok-read_exact.ensures.place;
    }
