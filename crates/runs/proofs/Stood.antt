-- The second law: what stands at a label's temporary.
use Rattle.std.proofs.Common.{◌≡◌, ℕ, Bool, true, false, cond, ◌||◌, [], ◌∷◌, ◌++◌, Some, None, Option, sym, refl, ap, ◌∙◌, subst, append_assoc, append-nil, arith}
use Rattle.std.proofs.lemmas.Bool.{or_parts, or_from}
use Rattle.keys.specs.Text.{Bytes}
use Rattle.storage.specs.Contents.{Contents, same, found, put}
use Rattle.storage.proofs.Order.{same_true}
use Rattle.storage.proofs.Finds.{found-without, found-put-same, found-put_other}
use Rattle.atomic_write.specs.Exports.{temporary}
use Rattle.runs.specs.Labels.{Plain}
use Rattle.runs.specs.Events.{Event, Run, Every, none, also, making, finishes, interrupts, begins, erases, erased_by}
use Rattle.runs.specs.Laws.{Holds, Stands}
use Rattle.runs.specs.Performed.{Ran, idle, next}
use Rattle.runs.proofs.Temporaries.{temporary_apart, temporary_ne}
use Rattle.runs.proofs.Steps.{Step, left, ended, begun, step_of}
use Rattle.runs.proofs.Held.{PlainRun, held, held_after, step_held, every_more, split_more, holds_more, holds_held}

-- what stands at the temporary of k after the event, if k held o and s stood there before
abbrev pub stood_after : Bytes → Option Bytes → Option Bytes → Event → Option Bytes
stood_after k o s e = cond (interrupts k e) (Some (making e.ask o)) (cond (finishes k e || erases (temporary k) e) None s)

unfoldable pub stood : Bytes → Option Bytes → Option Bytes → Run → Option Bytes
stood k o s [] = s
stood k o s (e ∷ h) = stood k (held_after k o e) (stood_after k o s e) h

-- what the contents have is what the run tells

step_stood : (k : Bytes) (o : Option Bytes) (e : Event) (c c' : Contents) → (Plain k → found k c ≡ o) → Step e c c' → found (temporary k) c' ≡ stood_after k o (found (temporary k) c) e
step_stood k o e c c' p (left f a q) = rw (f (same k), a (same k)) (ap (found (temporary k)) q ∙ found-without (temporary k) (erased_by e.ask e.reply) c)
step_stood k o e c c' p (ended j pj n f a r q) =
    rw (f (same k), a (same k), r (temporary k))
    (ap (found (temporary k)) q ∙ found-put_other (temporary k) j (making e.ask (found j c)) c (temporary_apart k j pj) ∙ go (same k j) refl)
  where
    go : (b : Bool) → same k j ≡ b → found (temporary k) c ≡ cond (b || false) None (found (temporary k) c)
    go true w = ap (λ (x : Bytes). found (temporary x) c) (same_true k j w) ∙ n
    go false w = refl
step_stood k o e c c' p (begun j pj n f a r q) = rw (f (same k), a (same k), r (temporary k)) (ap (found (temporary k)) q ∙ go (same k j) refl)
  where
    v : Option Bytes → Bytes
    v x = making e.ask x

    go : (b : Bool) → same k j ≡ b → found (temporary k) (put (temporary j) (v (found j c)) c) ≡ cond b (Some (v o)) (found (temporary k) c)
    go true w =
        let is = same_true k j w in
        ap (λ (x : Bytes). found (temporary x) (put (temporary j) (v (found j c)) c)) is
        ∙ found-put-same (temporary j) (v (found j c)) c
        ∙ ap (λ (x : Option Bytes). Some (v x)) (ap (λ (x : Bytes). found x c) (sym is) ∙ p (subst Plain (sym is) pj))
    go false w = found-put_other (temporary k) (temporary j) (v (found j c)) c (temporary_ne k j w)

pub ran_stood : {n : ℕ} {c c' : Contents} {h : Run} (k : Bytes) (o : Option Bytes) → (Plain k → found k c ≡ o) → Ran n c h c' → PlainRun h → found (temporary k) c' ≡ stood k o (found (temporary k) c) h
unfolding stood
ran_stood k o p idle ps = refl
ran_stood {n} k o p (next {c} {c'} {c''} {e} {h} x r) (also a ps) =
    let s = step_of n e.ask e.reply c c' a x in
    ran_stood k (held_after k o e) (λ pk. step_held k e c c' pk s ∙ ap (λ (y : Option Bytes). held_after k y e) (p pk)) r ps
    ∙ ap (λ (y : Option Bytes). stood k (held_after k o e) y h) (step_stood k o e c c' p s)

-- the run tells a split of itself

abbrev pub Known : Bytes → Run → Option Bytes → Type 0
Known k h s = (b : Bytes) → s ≡ Some b → Stands k h b

stands_left : {k : Bytes} {h : Run} {b : Bytes} (e : Event) → Stands k h b → begins k e ≡ false → erases (temporary k) e ≡ false → Stands k (h ++ (e ∷ [])) b
stands_left e x p q =
    record {
      before = x.before;
      last = x.last;
      since = x.since ++ (e ∷ []);
      held = x.held;
      split = split_more e x.split;
      unfinished = x.unfinished;
      no_later = every_more x.no_later p;
      not_erased = every_more x.not_erased q;
      holds = x.holds;
      makes = x.makes;
    }

some_same : {a b : Bytes} → ◌≡◌ {A = Option Bytes} (Some a) (Some b) → b ≡ a
some_same p = cc

pub none_some : {A : Type 0} {b : Bytes} → ◌≡◌ {A = Option Bytes} None (Some b) → A
none_some e = let z : ◌≡◌ {A = ℕ} 0 1 = cc in absurd (omega arith)

known_more : (k : Bytes) (h : Run) (o s : Option Bytes) (e : Event) → Holds k h o → Known k h s → Known k (h ++ (e ∷ [])) (stood_after k o s e)
known_more k h o s e x w = go (interrupts k e) (finishes k e) (erases (temporary k) e) refl refl refl
  where
    go : (a f g : Bool) → interrupts k e ≡ a → finishes k e ≡ f → erases (temporary k) e ≡ g → Known k (h ++ (e ∷ [])) (cond a (Some (making e.ask o)) (cond (f || g) None s))
    go true f g p q r b z = record { before = h; last = e; since = []; held = o; split = record { parts = refl }; unfinished = p; no_later = none; not_erased = none; holds = x; makes = some_same z }
    go false true g p q r b z = none_some z
    go false false true p q r b z = none_some z
    go false false false p q r b z = stands_left e (w b z) (or_from (finishes k e) (interrupts k e) q p) r

pub known_on : (k : Bytes) (before : Run) (o s : Option Bytes) (h : Run) → Holds k before o → Known k before s → Known k (before ++ h) (stood k o s h)
unfolding stood
known_on k before o s [] x w = rw append-nil w
known_on k before o s (e ∷ h) x w =
    subst (λ (y : Run). Known k y (stood k (held_after k o e) (stood_after k o s e) h)) (append_assoc before (e ∷ []) h)
    (known_on k (before ++ (e ∷ [])) (held_after k o e) (stood_after k o s e) h (holds_more k before o e x) (known_more k before o s e x w))

-- and what a split says is what the run tells

pub stood_append : (k : Bytes) (o s : Option Bytes) (a b : Run) → stood k o s (a ++ b) ≡ stood k (held k o a) (stood k o s a) b
unfolding stood held
stood_append k o s [] b = refl
stood_append k o s (e ∷ a) b = stood_append k (held_after k o e) (stood_after k o s e) a b

stood_left : (k : Bytes) {h : Run} (o s : Option Bytes) → Every (λ e. begins k e ≡ false) h → Every (λ e. erases (temporary k) e ≡ false) h → stood k o s h ≡ s
unfolding stood
stood_left k o s none none = refl
stood_left k o s (also {e} {h} b bs) (also g gs) =
    ap (λ (x : Option Bytes). stood k (held_after k o e) x h) (after (finishes k e) (interrupts k e) (erases (temporary k) e) b g)
    ∙ stood_left k (held_after k o e) s bs gs
  where
    after : (f a r : Bool) → (f || a) ≡ false → r ≡ false → cond a (Some (making e.ask o)) (cond (f || r) None s) ≡ s
    after f a r p q = let f-no = (or_parts f a p).0 in let a-no = (or_parts f a p).1 in rw (f-no, a-no, q) refl

pub stands_stood : {k : Bytes} {h : Run} {b : Bytes} → Stands k h b → stood k None None h ≡ Some b
unfolding stood
stands_stood {k} {h} {b} x =
    ap (stood k None None) x.split.parts
    ∙ stood_append k None None x.before (x.last ∷ x.since)
    ∙ stood_left k _ _ x.no_later x.not_erased
    ∙ after (holds_held x.holds) (interrupts k x.last) x.unfinished
  where
    after : held k None x.before ≡ x.held → (a : Bool) → a ≡ true → cond a (Some (making x.last.ask (held k None x.before))) (cond (finishes k x.last || erases (temporary k) x.last) None (stood k None None x.before)) ≡ Some b
    after ih a p = rw (p, ih) (ap Some (sym x.makes))
