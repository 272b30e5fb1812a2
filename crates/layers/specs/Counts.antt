-- What a write through the countdown comes to.
use Rattle.std.specs.Prelude.{◌≡◌, ℕ, ◌+◌, ◌<◌, Bool, true, false, cond, Some, Ok, Err, Option, Result, MatchResult, ◌==◌, refl}
use Rattle.std.proofs.Common.{sym, ◌∙◌, arith}
use Rattle.std.proofs.Math.Path.{ap}
use Rattle.std.proofs.lemmas.Bool.{cond-true, cond-false, eq-eqb, ne_eqb}
use Rattle.std.specs.Option.{option_map}
use Rattle.storage.specs.Faults.{own, raised}
use Rattle.storage.specs.Writes.{Write, Verdict, Settled}
use Rattle.storage.specs.declared.fault.Cause.TheVariants.{Device}
use Rattle.storage.specs.declared.fault.Fault.{Fault}
use Rattle.storage.specs.Stores.{Wrote}
use Rattle.storage.specs.declared.storage_sync.ReadableStorageTraits.{Ghosts}
use Rattle.storage.proofs.Order.{clash}
use Rattle.layers.specs.Countdown.{counted, Counts}

-- a verdict that refuses goes on refusing
pub refuses : (n : ℕ) (v : Verdict) (w : Write) → (f : Fault) × (v w ≡ Some f) → (f : Fault) × (counted n v w ≡ Some f)
unfolding counted
refuses n v w h = go (n == 0)
  where
    go : (b : Bool) → (f : Fault) × (cond b (Some (own Device)) (option_map raised (v w)) ≡ Some f)
    go true = (own Device, refl)
    go false = (raised h.0, ap (option_map raised) h.1)

-- no write is left, or some are
none_left : (n : ℕ) → n ≡ 0 → (n == 0) ≡ true
none_left n e = eq-eqb n 0 e

some_left : (n : ℕ) → 0 < n → (n == 0) ≡ false
some_left n h = ne_eqb n 0 (λ e. omega arith)

-- what is left, by the answer that was passed up
pub lowered : (n k : ℕ) (a r : Result (Unit {0}) Fault) → Counts n k a r → MatchResult r (λ _. k + 1 ≡ n) (λ _. k ≡ n)
lowered n k (Ok u) r h = rw h.1 h.0
lowered n k (Err f) r h = rw h.1 h.0

module _ {S : Type 0} (m : Ghosts S) (w : Write) (n : ℕ) where
  -- none left: 10, and all as it was
  pub cut : (s : S) (f : Fault) → (n ≡ 0) × (f ≡ own Device) → Settled {A = Unit {0}} m.tidy m.inplace w (Err f) (m.contents s) (m.contents s) (counted n (m.verdict s)) (counted n (m.verdict s))
  unfolding counted
  cut s f (z, is) =
      record {
        accepted = λ h. clash false h refl;
        tidily = λ _. (cond-true (n == 0) (Some (own Device)) (option_map raised (m.verdict s w)) (none_left n z) ∙ ap Some (sym is), (refl, λ x. refl));
      }

  -- some left: what the store below said of the write, counted
  told :
      (k : ℕ) (s s' : S) (a r : Result (Unit {0}) Fault)
      → 0 < n
      → Wrote m w a s s'
      → Counts n k a r
      → Settled m.tidy m.inplace w r (m.contents s) (m.contents s') (counted n (m.verdict s)) (counted k (m.verdict s'))
  unfolding counted
  told k s s' (Ok u) r h b (_, e) =
      rw e
      (record {
        accepted = b.accepted;
        tidily = λ t. cond-false (n == 0) (Some (own Device)) (option_map raised (m.verdict s w)) (some_left n h) ∙ ap (option_map raised) (b.tidily t);
      })
  told k s s' (Err f) r h b (same, e) =
      rw (e, same)
      (record {
        accepted = λ q. clash false q refl;
        tidily = λ t.
            let d = b.tidily t in (
              cond-false (n == 0) (Some (own Device)) (option_map raised (m.verdict s w)) (some_left n h) ∙ ap (option_map raised) d.0,
              (d.1.0, λ x. ap (λ (o : Option Fault). cond (n == 0) (Some (own Device)) (option_map raised o)) (d.1.1 x)),
            );
      })

  pub through :
      (k : ℕ) (s s' s'' : S) (a r : Result (Unit {0}) Fault)
      → 0 < n
      → Wrote m w a s s'
      → s'' ≡ s'
      → Counts n k a r
      → Settled m.tidy m.inplace w r (m.contents s) (m.contents s'') (counted n (m.verdict s)) (counted k (m.verdict s''))
  through k s s' s'' a r h b e t = rw e (told k s s' a r h b t)
