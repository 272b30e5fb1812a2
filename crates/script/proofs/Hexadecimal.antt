-- Hexadecimal text: the steps of reading it.
use Rattle.std.proofs.Common.{◌≡◌, ℕ, ◌+◌, ◌*◌, ◌<◌, [], ◌∷◌, ◌++◌, length, get_or, refl, ap, ◌∙◌, arith}
use Rattle.script.specs.Words.{Bytes}
use Rattle.script.proofs.Appends.{onward}
use Rattle.script.specs.Hex.{digit_value, unhex}

pub unhex_short : (u : Bytes) → length u < 2 → unhex u ≡ []
unfolding unhex
unhex_short [] h = refl
unhex_short (a ∷ []) h = refl
unhex_short (a ∷ b ∷ u) h = absurd (omega arith)

unhex_pair : (a b : ℕ) (u : Bytes) → unhex (a ∷ b ∷ u) ≡ (digit_value a * 16 + digit_value b) ∷ unhex u
unfolding unhex
unhex_pair a b u = refl

-- one turn of reading: the pair p stands at the front of u
pub decode_step : (a b p u v w : Bytes) (x : ℕ) → length p ≡ 2 → u ≡ p ++ v → x ≡ digit_value (get_or p 0 0) * 16 + digit_value (get_or p 1 0) → a ≡ b ++ (x ∷ []) → b ++ unhex u ≡ w → a ++ unhex v ≡ w
decode_step a b [] u v w x l e q r i = absurd (omega arith)
decode_step a b (h ∷ []) u v w x l e q r i = absurd (omega arith)
decode_step a b (h ∷ k ∷ []) u v w x l e q r i = onward a b ((digit_value h * 16 + digit_value k) ∷ []) (unhex u) (unhex v) w (r ∙ ap (λ y. b ++ (y ∷ [])) q) (ap unhex e ∙ unhex_pair h k v) i
decode_step a b (h ∷ k ∷ m ∷ p) u v w x l e q r i = absurd (omega arith)
