use Rattle.std.proofs.Common.{inr, sym, refl}
use Rattle.layers.proofs.countdown.Countdown.written.Goals as goal

pub returns : goal.returns
returns g c = inr (c.write-answer.result, c.in_ok-has_power.ensures, record { shown = _; shows = refl; left = _; met = c.write-answer.ensures; leaves = sym c.count.ensures.below.0 }, c.count.ensures.counts, c.count.ensures.below.1)
