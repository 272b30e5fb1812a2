-- The first law: what a plain label holds.
use Rattle.std.proofs.Common.{◌≡◌, ℕ, Bool, true, false, cond, [], ◌∷◌, ◌++◌, Some, None, Option, sym, refl, ap, ◌∙◌, subst, append_assoc, append-nil}
use Rattle.std.proofs.lemmas.Bool.{and_right}
use Rattle.keys.specs.Text.{Bytes}
use Rattle.storage.specs.Contents.{Contents, same, found, put}
use Rattle.storage.proofs.Order.{clash, same_true, same_false}
use Rattle.storage.proofs.Finds.{found-without, found-put-same, found-put_other}
use Rattle.atomic_write.specs.Exports.{temporary}
use Rattle.runs.specs.Labels.{Plain}
use Rattle.runs.specs.Events.{Ask, set, patch, erase, erase_many, erase_prefix, power_on, read, Reply, Event, Run, Every, none, also, Split, done, exports, making, finishes, erases, erased_by}
use Rattle.runs.specs.Laws.{Holds, finished, never, erased, Leaves, PlainAsk}
use Rattle.runs.specs.Performed.{Ran, idle, next}
use Rattle.runs.proofs.Temporaries.{plain_apart}
use Rattle.runs.proofs.Steps.{Step, left, ended, begun, step_of}

abbrev pub PlainRun : Run → Type 0
PlainRun h = Every (λ e. PlainAsk e.ask) h

-- what k holds after the event, if it held o before
abbrev pub held_after : Bytes → Option Bytes → Event → Option Bytes
held_after k o e = cond (finishes k e) (Some (making e.ask o)) (cond (erases k e) None o)

unfoldable pub held : Bytes → Option Bytes → Run → Option Bytes
held k o [] = o
held k o (e ∷ h) = held k (held_after k o e) h

-- what the contents have is what the run tells

pub step_held : (k : Bytes) (e : Event) (c c' : Contents) → Plain k → Step e c c' → found k c' ≡ held_after k (found k c) e
step_held k e c c' p (left f a q) = rw (f (same k)) (ap (found k) q ∙ found-without k (erased_by e.ask e.reply) c)
step_held k e c c' p (ended j pj n f a r q) = rw (f (same k), r k) (ap (found k) q ∙ go (same k j) refl)
  where
    v : Option Bytes → Bytes
    v o = making e.ask o

    go : (b : Bool) → same k j ≡ b → found k (put j (v (found j c)) c) ≡ cond b (Some (v (found k c))) (found k c)
    go true w =
        let is = same_true k j w in
        ap (λ (x : Bytes). found x (put j (v (found j c)) c)) is
        ∙ found-put-same j (v (found j c)) c
        ∙ ap (λ (x : Bytes). Some (v (found x c))) (sym is)
    go false w = found-put_other k j (v (found j c)) c (same_false k j w)
step_held k e c c' p (begun j pj n f a r q) =
    rw (f (same k), r k) (ap (found k) q ∙ found-put_other k (temporary j) (making e.ask (found j c)) c (plain_apart k j p))

pub ran_held : {n : ℕ} {c c' : Contents} {h : Run} (k : Bytes) → Plain k → Ran n c h c' → PlainRun h → found k c' ≡ held k (found k c) h
unfolding held
ran_held k p idle ps = refl
ran_held {n} k p (next {c} {c'} {c''} {e} {h} x r) (also a ps) =
    ran_held k p r ps ∙ ap (λ (o : Option Bytes). held k o h) (step_held k e c c' p (step_of n e.ask e.reply c c' a x))

-- runs, one event longer

pub every_more : {P : Event → Type 0} {h : Run} {e : Event} → Every P h → P e → Every P (h ++ (e ∷ []))
every_more none p = also p none
every_more (also q qs) p = also q (every_more qs p)

pub split_more : {h before since : Run} {e : Event} (x : Event) → Split h before e since → Split (h ++ (x ∷ [])) before e (since ++ (x ∷ []))
split_more {h} {before} {since} {e} x s = record { parts = ap (λ (y : Run). y ++ (x ∷ [])) s.parts ∙ append_assoc before (e ∷ since) (x ∷ []) }

holds_left : {k : Bytes} {h : Run} {o : Option Bytes} (e : Event) → Holds k h o → finishes k e ≡ false → erases k e ≡ false → Holds k (h ++ (e ∷ [])) o
holds_left e (finished s q l x) f g = finished (split_more e s) q (every_more l (record { unfinished = f; kept = g })) x
holds_left e (never l) f g = never (every_more l f)
holds_left e (erased s q l) f g = erased (split_more e s) q (every_more l f)

pub holds_more : (k : Bytes) (h : Run) (o : Option Bytes) (e : Event) → Holds k h o → Holds k (h ++ (e ∷ [])) (held_after k o e)
holds_more k h o e x = go (finishes k e) (erases k e) refl refl
  where
    go : (f g : Bool) → finishes k e ≡ f → erases k e ≡ g → Holds k (h ++ (e ∷ [])) (cond f (Some (making e.ask o)) (cond g None o))
    go true g p q = finished (record { parts = refl }) p none x
    go false true p q = erased (record { parts = refl }) q none
    go false false p q = holds_left e x p q

-- the run tells a split of itself

pub holds_on : (k : Bytes) (before : Run) (o : Option Bytes) (h : Run) → Holds k before o → Holds k (before ++ h) (held k o h)
unfolding held
holds_on k before o [] x = rw append-nil x
holds_on k before o (e ∷ h) x =
    subst (λ (y : Run). Holds k y (held k (held_after k o e) h)) (append_assoc before (e ∷ []) h)
    (holds_on k (before ++ (e ∷ [])) (held_after k o e) h (holds_more k before o e x))

-- and what a split says is what the run tells

pub held_append : (k : Bytes) (o : Option Bytes) (a b : Run) → held k o (a ++ b) ≡ held k (held k o a) b
unfolding held
held_append k o [] b = refl
held_append k o (e ∷ a) b = held_append k (held_after k o e) a b

held_leaves : {k : Bytes} {h : Run} (o : Option Bytes) → Every (Leaves k) h → held k o h ≡ o
unfolding held
held_leaves o none = refl
held_leaves {k} o (also {e} {h} l ls) =
    ap (λ (x : Option Bytes). held k x h) (after (finishes k e) (erases k e) l.unfinished l.kept) ∙ held_leaves o ls
  where
    after : (f g : Bool) → f ≡ false → g ≡ false → cond f (Some (making e.ask o)) (cond g None o) ≡ o
    after f g p q = rw (p, q) refl

held_none : (k : Bytes) {h : Run} → Every (λ e. finishes k e ≡ false) h → held k None h ≡ None
unfolding held
held_none k none = refl
held_none k (also {e} {h} l ls) = ap (λ (x : Option Bytes). held k x h) (after (finishes k e) (erases k e) l) ∙ held_none k ls
  where
    after : (f g : Bool) → f ≡ false → cond f (Some (making e.ask None)) (cond g None None) ≡ None
    after f true p = rw p refl
    after f false p = rw p refl

-- what erases a key finishes no export
erases_only : (k : Bytes) (s : Ask) (a : Reply) → erased_by s a k ≡ true → exports (same k) s ≡ false
erases_only k (set j v) a p = clash false p refl
erases_only k (patch j ps d n) a p = clash false p refl
erases_only k (erase j) a p = refl
erases_only k (erase_many rs) a p = refl
erases_only k (erase_prefix q) a p = refl
erases_only k power_on a p = refl
erases_only k (read q) a p = refl

pub holds_held : {k : Bytes} {h : Run} {o : Option Bytes} → Holds k h o → held k None h ≡ o
unfolding held
holds_held {k} (finished {h} {before} {since} {e} {old} s q l x) =
    ap (held k None) s.parts
    ∙ held_append k None before (e ∷ since)
    ∙ held_leaves (held_after k (held k None before) e) l
    ∙ after (holds_held x) (finishes k e) q
  where
    after : held k None before ≡ old → (f : Bool) → f ≡ true → cond f (Some (making e.ask (held k None before))) (cond (erases k e) None (held k None before)) ≡ Some (making e.ask old)
    after ih f p = rw (p, ih) refl
holds_held {k} (never l) = held_none k l
holds_held {k} (erased {h} {before} {since} {e} s q l) =
    ap (held k None) s.parts
    ∙ held_append k None before (e ∷ since)
    ∙ ap (λ (x : Option Bytes). held k x since) (after (finishes k e) (erases k e) (and_right (done e.reply) _ (erases_only k e.ask e.reply q)) q)
    ∙ held_none k l
  where
    after : (f g : Bool) → f ≡ false → g ≡ true → cond f (Some (making e.ask (held k None before))) (cond g None (held k None before)) ≡ None
    after f g p r = rw (p, r) refl
