-- What is written reads back.
use Rattle.std.proofs.Common.{◌≡◌, ℕ, ◌+◌, ◌-◌, ◌*◌, ◌/◌, ◌%◌, ◌<◌, true, false, eqb, leb, [], ◌∷◌, ◌++◌, length, get_or, take, Some, sym, refl, ap, append_assoc, ◌∙◌, arith}
use Rattle.std.specs.List.{AllByRecursion}
use Rattle.std.proofs.lemmas.List.{take_at, get_or_at, length_push}
use Rattle.std.proofs.lemmas.Bool.{le-leb, eq-eqb, and_from, and_right, cond-true, cond-false, cond_both}
use Rattle.std.proofs.lemmas.Bool.Decides.{nat_tests}
use Rattle.script.specs.Words.{Bytes}
use Rattle.script.specs.Hex.{digit_value, digit_of, is_digit, all_digits, is_hex, unhex, hex}
use Rattle.script.specs.Values.{quote, hex_mark, is_quoted, is_hex_value, value_said}
use Rattle.transcript.specs.Written.{printable, value_text}

digit_back : (n : ℕ) → digit_value (digit_of n) ≡ n % 16
digit_back n = grind (arith, nat_tests)

digit_is : (n : ℕ) → is_digit (digit_of n) ≡ true
digit_is n = grind (arith, nat_tests)

-- the numbers that a byte holds
abbrev pub Octets : Bytes → Type 0
Octets v = AllByRecursion (λ b. b < 256) v

pub unhex-hex : (v : Bytes) → Octets v → unhex (hex v) ≡ v
unfolding unhex hex
unhex-hex [] h = refl
unhex-hex (b ∷ v) (h, k) =
    let e : digit_value (digit_of (b / 16)) * 16 + digit_value (digit_of b) ≡ b = omega (arith, digit_back (b / 16), digit_back b) in
    ap (λ x. x ∷ unhex (hex v)) e ∙ ap (λ u. b ∷ u) (unhex-hex v k)

hex_digits : (v : Bytes) → all_digits (hex v) ≡ true
unfolding hex
hex_digits [] = refl
hex_digits (b ∷ v) = and_from (is_digit (digit_of (b / 16))) _ (digit_is (b / 16)) (and_from (is_digit (digit_of b)) _ (digit_is b) (hex_digits v))

hex-length : (v : Bytes) → length (hex v) ≡ 2 * length v
unfolding hex
hex-length [] = refl
hex-length (b ∷ v) = omega (arith, hex-length v)

pub hex_is : (v : Bytes) → is_hex (hex v) ≡ true
unfolding is_hex
hex_is v = and_from (all_digits (hex v)) _ (hex_digits v) (eq-eqb (length (hex v) % 2) 0 (omega (arith, hex-length v)))

pub quoted_back : (v : Bytes) → value_said (quote ∷ (v ++ (quote ∷ []))) ≡ Some v
unfolding value_said
quoted_back v =
    let t : Bytes = quote ∷ (v ++ (quote ∷ [])) in
    let n : length t ≡ length v + 2 = omega (arith, length_push v quote) in
    let m : length t - 1 ≡ length (quote ∷ v) = omega arith in
    let last : get_or t (length t - 1) 0 ≡ quote = ap (λ k. get_or t k 0) m ∙ get_or_at (quote ∷ v) quote [] 0 (length (quote ∷ v)) refl in
    let q : is_quoted t ≡ true = and_from (leb 2 (length t)) _ (le-leb 2 (length t) (omega arith)) (and_from (eqb (get_or t 0 0) quote) _ refl (eq-eqb (get_or t (length t - 1) 0) quote last)) in
    let l : length t - 2 ≡ length v = omega arith in
    cond-true (is_quoted t) _ _ q ∙ ap Some (ap (λ k. take k (v ++ (quote ∷ []))) l ∙ take_at v (quote ∷ []) (length v) refl)

pub hex_back : (v : Bytes) → Octets v → value_said (hex_mark ∷ hex v) ≡ Some v
unfolding value_said
hex_back v h =
    let t : Bytes = hex_mark ∷ hex v in
    let q : is_quoted t ≡ false = and_right (leb 2 (length t)) _ refl in
    let x : is_hex_value t ≡ true = and_from (leb 1 (length t)) _ (le-leb 1 (length t) (omega arith)) (hex_is v) in
    cond-false (is_quoted t) _ _ q ∙ (cond-true (is_hex_value t) _ _ x ∙ ap Some (unhex-hex v h))

-- a value that is written reads back
pub value_back : (v : Bytes) → Octets v → value_said (value_text v) ≡ Some v
unfolding value_text
value_back v h = cond_both (printable v) (quote ∷ (v ++ (quote ∷ []))) (hex_mark ∷ hex v) (λ t. value_said t ≡ Some v) (λ _. quoted_back v) (λ _. hex_back v h)

module _ (o a d v : Bytes) where
  pub text_put : (b : Bytes) → printable v ≡ true → a ≡ o ++ (quote ∷ []) → b ≡ a ++ v → d ≡ b ++ (quote ∷ []) → d ≡ o ++ value_text v
  unfolding value_text
  text_put b p e f g =
      g
      ∙ (ap (λ l. l ++ (quote ∷ [])) (f ∙ ap (λ l. l ++ v) e)
      ∙ (append_assoc (o ++ (quote ∷ [])) v (quote ∷ [])
      ∙ (append_assoc o (quote ∷ []) (v ++ (quote ∷ [])) ∙ ap (λ l. o ++ l) (sym (cond-true (printable v) _ _ p)))))

  pub hex_put : printable v ≡ false → a ≡ o ++ (hex_mark ∷ []) → d ≡ a ++ hex v → d ≡ o ++ value_text v
  unfolding value_text
  hex_put p e f = f ∙ (ap (λ l. l ++ hex v) e ∙ (append_assoc o (hex_mark ∷ []) (hex v) ∙ ap (λ l. o ++ l) (sym (cond-false (printable v) _ _ p))))
