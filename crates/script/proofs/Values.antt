-- Values: what the code finds is what their text says.
use Rattle.std.proofs.Common.{◌≡◌, ◌-◌, ◌≤◌, Bool, true, false, ◌&&◌, eqb, length, get_or, take, drop, Some, None, sym, ap, ◌∙◌, arith}
use Rattle.std.proofs.lemmas.List.{take_rest}
use Rattle.std.proofs.lemmas.Bool.{le-leb, eq-eqb, cond-true, cond-false}
use Rattle.script.specs.Words.{Bytes}
use Rattle.script.specs.Hex.{is_hex, unhex}
use Rattle.script.specs.Values.{hex_mark, is_quoted, is_hex_value, value_said}

pub hex_value_is : (t : Bytes) (r : Bool) → 1 ≤ length t → get_or t 0 0 ≡ hex_mark → r ≡ is_hex (take (length t - 1) (drop 1 t)) → r ≡ is_hex_value t
hex_value_is t r h e p =
    p
    ∙ (ap is_hex (take_rest t 1)
    ∙ sym (ap (λ x. x && (eqb (get_or t 0 0) hex_mark && is_hex (drop 1 t))) (le-leb 1 (length t) h) ∙ ap (λ x. x && is_hex (drop 1 t)) (eq-eqb (get_or t 0 0) hex_mark e)))

pub quoted_said : (t : Bytes) → is_quoted t ≡ true → Some (take ((length t - 1) - 1) (drop 1 t)) ≡ value_said t
unfolding value_said
quoted_said t e =
    let n : (length t - 1) - 1 ≡ length t - 2 = omega arith in
    ap (λ m. Some (take m (drop 1 t))) n ∙ sym (cond-true (is_quoted t) _ _ e)

pub hex_said : (t : Bytes) → is_quoted t ≡ false → is_hex_value t ≡ true → Some (unhex (take (length t - 1) (drop 1 t))) ≡ value_said t
unfolding value_said
hex_said t e f = ap (λ u. Some (unhex u)) (take_rest t 1) ∙ (sym (cond-true (is_hex_value t) _ _ f) ∙ sym (cond-false (is_quoted t) _ _ e))

pub none_said : (t : Bytes) → is_quoted t ≡ false → is_hex_value t ≡ false → None ≡ value_said t
unfolding value_said
none_said t e f = sym (cond-false (is_hex_value t) _ _ f) ∙ sym (cond-false (is_quoted t) _ _ e)
