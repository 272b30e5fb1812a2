-- Total orders, by what comparing two values answers.
use Rattle.std.specs.Prelude.{◌≡◌}
use Rattle.std.specs.declared.cmp.Ordering.TheVariants.{Less, Equal}
use Rattle.std.specs.declared.cmp.Ordering.{Ordering}
use Rattle.std.specs.Ordering.{ordering_reverse}

-- the answers are those of a total order that tells all values apart
pub record Lawful {X : Type 0} (c : X → X → Ordering) : Type 0 where
  pub total : (a b : X) → c a b ≡ ordering_reverse (c b a)
  pub transitive : (a b d : X) → c a b ≡ Less → c b d ≡ Less → c a d ≡ Less
  pub equal : (a b : X) → c a b ≡ Equal → a ≡ b
