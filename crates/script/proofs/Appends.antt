-- Texts that are written one behind the other.
use Rattle.std.proofs.Common.{◌≡◌, ◌++◌, sym, ap, ◌∙◌, append_assoc}
use Rattle.script.specs.Words.{Bytes}

-- one more at the end of what is written, and one less in what is left
pub onward : (a b x u v w : Bytes) → a ≡ b ++ x → u ≡ x ++ v → b ++ u ≡ w → a ++ v ≡ w
onward a b x u v w p q r = ap (λ l. l ++ v) p ∙ (append_assoc b x v ∙ (ap (λ l. b ++ l) (sym q) ∙ r))
