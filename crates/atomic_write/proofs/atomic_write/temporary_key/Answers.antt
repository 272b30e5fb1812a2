use Rattle.std.proofs.Common.{◌≡◌, false, eqb, length, sym, ap, ◌∙◌}
use Rattle.std.proofs.lemmas.Result.{err_from_is_err_and}
use Rattle.keys.specs.Text.{Bytes}
use Rattle.keys.specs.StoreKeys.{text}
use Rattle.atomic_write.specs.Exports.{temporary}
use Rattle.atomic_write.proofs.Temporaries.{no_temporary, has_temporary}
use Rattle.atomic_write.proofs.atomic_write.temporary_key.Goals as goal

pub returns-in_err-joined : goal.returns-in_err-joined
returns-in_err-joined c =
    let p = err_from_is_err_and c.from_residual.result c.from_residual.ensures.1 in
    let k = c.args.key.now in
    let n : eqb (length (text c.args.key.now)) 0 ≡ false = sym (c.if-is_empty.ensures ∙ ap (λ (t : Bytes). eqb (length t) 0) c.as_bytes.ensures) in
    rw (p.1, p.2) (no_temporary (text k) n c.in_err-joined.field-0.0 k.rule c.in_err-joined.ensures)

pub returns : goal.returns
unfolding temporary
returns c =
    let k = c.args.key.now in
    let n : eqb (length (text c.args.key.now)) 0 ≡ false = sym (c.if-is_empty.ensures ∙ ap (λ (t : Bytes). eqb (length t) 0) c.as_bytes.ensures) in
    (has_temporary (text k) n c.in_ok-joined.ensures.0, c.in_ok-joined.ensures.2)
