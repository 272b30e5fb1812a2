-- What was before `map_err`, by what is after it.
use Rattle.std.proofs.Common.{◌≡◌, Ok, Err, Result, refl, subst}
use Rattle.std.specs.Result.{MatchResult, IsErrAnd}

module _ {T E D : Type 0} (P : E → D → Type 0) where
  pub mapped_ok : (r : Result T E) (q : Result T D) (x : T) → MatchResult r (λ y. q ≡ Ok y) (λ e. IsErrAnd q (P e)) → q ≡ Ok x → r ≡ Ok x
  mapped_ok (Ok y) q x h k = cc
  mapped_ok (Err e) q x h k = absurd (subst (λ (o : Result T D). IsErrAnd o (P e)) k h)

  pub mapped_err : (r : Result T E) (q : Result T D) (f : D) → MatchResult r (λ y. q ≡ Ok y) (λ e. IsErrAnd q (P e)) → q ≡ Err f → (e : E) × (r ≡ Err e) × P e f
  mapped_err (Ok y) q f h k = absurd cc
  mapped_err (Err e) q f h k = (e, refl, subst (λ (o : Result T D). IsErrAnd o (P e)) k h)
