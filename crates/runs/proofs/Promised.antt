-- What runs promise, of performed calls.
use Rattle.std.proofs.Common.{◌≡◌, ℕ, List, [], ◌∷◌, ◌++◌, sym, refl, ap, ◌∙◌, subst, append_assoc, append-nil}
use Rattle.storage.specs.Contents.{Contents, Ascending, ascending}
use Rattle.runs.specs.declared.call.Call.{Call}
use Rattle.runs.specs.declared.call.Answer.{Answer}
use Rattle.runs.specs.Labels.{within}
use Rattle.runs.specs.Events.{Event, Run, none, also, events}
use Rattle.runs.specs.Laws.{PlainCalls, Lawful}
use Rattle.runs.specs.Performed.{Performed, Ran, idle, next}
use Rattle.runs.specs.Runs.{Whole, RunLaws, TwoRunLaws}
use Rattle.runs.proofs.Held.{PlainRun}
use Rattle.runs.proofs.Loops.{ran_on}
use Rattle.runs.proofs.Replies.{performed_answers, answers_performed}
use Rattle.runs.proofs.Same.{performed_ascending, same_on}
use Rattle.runs.proofs.Unique.{lawful_unique}
use Rattle.runs.proofs.Whole.{lawful_empty, lawful_on}

plain-events : (cs : List Call) (rs : List Answer) → PlainCalls cs → PlainRun (events cs rs)
unfolding PlainCalls events
plain-events [] rs p = none
plain-events (c ∷ cs) [] p = none
plain-events (c ∷ cs) (r ∷ rs) p = also p.0 (plain-events cs rs p.1)

plain_front : (h g : Run) → PlainRun (h ++ g) → PlainRun h
plain_front [] g ps = none
plain_front (e ∷ h) g (also p ps) = also p (plain_front h g ps)

plain-append : {h g : Run} → PlainRun h → PlainRun g → PlainRun (h ++ g)
plain-append none qs = qs
plain-append (also p ps) qs = also p (plain-append ps qs)

ran_ascending : {n : ℕ} {c c' : Contents} {h : Run} → Ran n c h c' → Ascending c → Ascending c'
ran_ascending idle a = a
ran_ascending {n} (next {c} {c'} {c''} {e} {h} x r) a = ran_ascending r (performed_ascending n e.ask e.reply c c' x a)

ran_append : {n : ℕ} {a b c : Contents} {h g : Run} → Ran n a h b → Ran n b g c → Ran n a (h ++ g) c
ran_append idle s = s
ran_append (next {e = e} x r) s = next {e = e} x (ran_append r s)

-- a run, cut at an event
ran_at : {n : ℕ} (before since : Run) (e : Event) {c c' : Contents} → Ran n c (before ++ (e ∷ since)) c' → (b : Contents) × (b' : Contents) × Ran n c before b × Performed n e.ask e.reply b b'
ran_at [] since e (next {c} {c'} x r) = (c, c', idle, x)
ran_at (y ∷ before) since e (next x r) = let m = ran_at before since e r in (m.0, m.1, next {e = y} x m.2, m.3)

none_ascends : Ascending []
unfolding ascending
none_ascends = refl

ran_lawful : {n : ℕ} {c : Contents} {h : Run} → Ran n [] h c → PlainRun h → Lawful h c
ran_lawful r ps = lawful_on [] lawful_empty r ps

-- the performed calls of a run give its laws

ran_whole : {n : ℕ} {c : Contents} {h : Run} → Ran n [] h c → PlainRun h → Whole n h c
ran_whole {n} {c} {h} r ps =
    record {
      plain = ps;
      ascends = ran_ascending r none_ascends;
      lawful = ran_lawful r ps;
      told =
          λ before since e s.
          let m = ran_at before since e (subst (λ (g : Run). Ran n [] g c) s.parts r) in
          record {
            stored = m.0;
            ascends = ran_ascending m.2 none_ascends;
            lawful = ran_lawful m.2 (plain_front before (e ∷ since) (subst PlainRun s.parts ps));
            answered = performed_answers n e.ask e.reply m.0 m.1 m.3;
          };
    }

-- and its laws give them: at each event the contents are the ones that the laws allow

whole_from : {n : ℕ} {c : Contents} {h : Run} → Whole n h c → (past rest : Run) (b : Contents) → h ≡ past ++ rest → Ran n [] past b → Ran n [] h c
whole_from {n} {c} {h} w past [] b e r =
    let q : h ≡ past = e ∙ append-nil past in
    let law = ran_lawful r (subst PlainRun q w.plain) in
    let same = lawful_unique law (subst (λ (g : Run). Lawful g c) q w.lawful) (ran_ascending r none_ascends) w.ascends in
    subst (λ (g : Run). Ran n [] g c) (sym q) (subst (Ran n [] past) same r)
whole_from {n} {c} {h} w past (x ∷ rest) b e r =
    let t = w.told past rest x (record { parts = e }) in
    let law = ran_lawful r (plain_front past (x ∷ rest) (subst PlainRun e w.plain)) in
    let same = lawful_unique t.lawful law t.ascends (ran_ascending r none_ascends) in
    let p = answers_performed n x.ask x.reply t.stored t.answered in
    whole_from w (past ++ (x ∷ [])) rest p.0 (e ∙ sym (append_assoc past (x ∷ []) rest))
    (ran_on x r (subst (λ (y : Contents). Performed n x.ask x.reply y p.0) same p.1))

whole_ran : {n : ℕ} {c : Contents} {h : Run} → Whole n h c → Ran n [] h c
whole_ran {n} {c} {h} w = whole_from w [] h [] refl idle

pub run_laws : {n : ℕ} {c c' : Contents} (cs : List Call) (rs : List Answer) → PlainCalls cs → Ran n c (events cs rs) c' → RunLaws n c (events cs rs) c'
run_laws {n} {c} {c'} cs rs p r =
    let ps = plain-events cs rs p in
    record {
      alone = λ e. ran_whole (subst (λ (b : Contents). Ran n b (events cs rs) c') e r) ps;
      after = λ earlier w. ran_whole (ran_append (whole_ran w) r) (plain-append w.plain ps);
      lawful = λ earlier law. lawful_on earlier law r ps;
    }

pub two_run_laws : {n m : ℕ} {c c' d d' : Contents} {h g : Run} → n ≡ m → Ascending c → Ascending d → Ran n c h c' → Ran m d g d' → TwoRunLaws n c h c' d g d'
two_run_laws {n} {m} {c} {c'} {d} {d'} {h} {g} layers a b r q' =
    let q = subst (λ (x : ℕ). Ran x d g d') (sym layers) q' in
    record {
      alone = λ p t e f alike u w. same_on p [] [] t r q a b u w alike (record { labels = ap (within p) (e ∙ sym f); answers = refl });
      after =
          λ p t earlier before x y alike u w.
          same_on p [] [] t (ran_append (whole_ran x) r) (ran_append (whole_ran y) q) none_ascends none_ascends u w alike (record { labels = refl; answers = refl });
      onward = λ p t earlier before was alike u w. same_on p earlier before t r q a b u w alike was;
    }
