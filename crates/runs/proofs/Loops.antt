-- A run, one call longer.
use Rattle.std.proofs.Common.{◌≡◌, ℕ, zero, suc, ◌<◌, List, [], ◌∷◌, ◌++◌, length, get_or, sym, refl, ap, ◌∙◌, subst, arith}
use Rattle.storage.specs.Contents.{Contents}
use Rattle.runs.specs.declared.call.Call.{Call}
use Rattle.runs.specs.declared.call.Answer.{Answer}
use Rattle.runs.specs.Events.{asked, said, Event, Run, events}
use Rattle.runs.specs.Performed.{Performed, Ran, idle, next}

events_none : (cs : List Call) → events cs [] ≡ []
unfolding events
events_none [] = refl
events_none (c ∷ cs) = refl

events_more : (cs : List Call) (rs : List Answer) (i : ℕ) (d : Call) (a : Answer) → length rs ≡ i → i < length cs → events cs (rs ++ (a ∷ [])) ≡ events cs rs ++ (record { ask = asked (get_or cs i d); reply = said a } ∷ [])
unfolding events
events_more [] rs i d a l h = absurd (omega arith)
events_more (c ∷ cs) [] zero d a l h = ap (λ (x : Run). record { ask = asked c; reply = said a } ∷ x) (events_none cs)
events_more (c ∷ cs) [] (suc i) d a l h = absurd (omega arith)
events_more (c ∷ cs) (r ∷ rs) zero d a l h = absurd (omega arith)
events_more (c ∷ cs) (r ∷ rs) (suc i) d a l h = ap (λ (x : Run). record { ask = asked c; reply = said r } ∷ x) (events_more cs rs i d a (omega arith) (omega arith))

pub ran_on : {n : ℕ} {c c' c'' : Contents} {h : Run} (e : Event) → Ran n c h c' → Performed n e.ask e.reply c' c'' → Ran n c (h ++ (e ∷ [])) c''
ran_on e idle x = next {e = e} x idle
ran_on e (next {e = y} z r) x = next {e = y} z (ran_on e r x)

pub ran_none : (n : ℕ) (cs : List Call) (rs : List Answer) (c : Contents) → rs ≡ [] → Ran n c (events cs rs) c
ran_none n cs rs c e = subst (λ (h : Run). Ran n c h c) (sym (ap (events cs) e ∙ events_none cs)) idle

pub ran_more : {n : ℕ} {c c' c'' : Contents} (cs : List Call) (rs rs' : List Answer) (i : ℕ) (x : Call) (a : Answer) → length rs ≡ i → i < length cs → x ≡ get_or cs i x → rs' ≡ rs ++ (a ∷ []) → Ran n c (events cs rs) c' → Performed n (asked x) (said a) c' c'' → Ran n c (events cs rs') c''
ran_more {n} {c} {c'} {c''} cs rs rs' i x a l h is e r p =
    let m = events_more cs rs i x a l h ∙ ap (λ (y : Call). events cs rs ++ (record { ask = asked y; reply = said a } ∷ [])) (sym is) in
    subst (λ (y : Run). Ran n c y c'') (sym (ap (events cs) e ∙ m)) (ran_on (record { ask = asked x; reply = said a }) r p)
