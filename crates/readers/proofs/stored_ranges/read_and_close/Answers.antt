use Rattle.std.proofs.Common.{ap, ◌∙◌}
use Rattle.readers.proofs.stored_ranges.read_and_close.Goals as goal

pub returns : goal.returns
returns g c =
    let moved = c.extract_byte_ranges_read_seek-answer.ensures.place.rest 0 in
    record { store = c.into_inner.ensures ∙ ap (λ r. r.storage) moved; read = c.extract_byte_ranges_read_seek-answer.ensures.read }
