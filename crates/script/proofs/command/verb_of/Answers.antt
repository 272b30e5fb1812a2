use Rattle.std.proofs.Common.{◌≡◌, codes, sym, ap, arith}
use Rattle.std.proofs.lemmas.Slice.Eq.{text_from_reads}
use Rattle.script.specs.Commands.{verb_of}
use Rattle.script.proofs.command.verb_of.Goals as goal

pub returns-in-export : goal.returns-in-export
returns-in-export c =
    let e : c.args.word.now ≡ codes "export" = text_from_reads c.args.word.now (codes "export") (omega arith) (omega arith, (omega arith, (omega arith, (omega arith, (omega arith, (omega arith, tt)))))) in
    sym (ap verb_of e)
