-- The first two laws, of a run that follows one of which they hold.
use Rattle.std.proofs.Common.{◌≡◌, ℕ, ◌+◌, Bool, [], ◌++◌, Some, None, Option, sym, refl, ap, ◌∙◌, subst}
use Rattle.keys.specs.Text.{Bytes}
use Rattle.storage.specs.Contents.{Contents, found}
use Rattle.atomic_write.specs.Exports.{temporary}
use Rattle.runs.specs.Labels.{Plain}
use Rattle.runs.specs.Events.{Run, none}
use Rattle.runs.specs.Laws.{Holds, never, Stands, Lawful, begun_in, finished_in, cleared_in, standing_in, any}
use Rattle.runs.specs.Performed.{Ran}
use Rattle.runs.proofs.Held.{PlainRun, held, ran_held, holds_on, holds_held, held_append}
use Rattle.runs.proofs.Stood.{stood, ran_stood, known_on, stands_stood, stood_append, none_some}
use Rattle.runs.proofs.Counted.{counts_on}

-- what a run tells of its label, it tells by a split of itself

never_yet : (k : Bytes) → Holds k [] None
never_yet k = never none

told-holds : (k : Bytes) (h : Run) → Holds k h (held k None h)
told-holds k h = holds_on k [] None h (never_yet k)

told_stands : (k : Bytes) (h : Run) (b : Bytes) → stood k None None h ≡ Some b → Stands k h b
told_stands k h b e = known_on k [] None None h (never_yet k) (λ x z. none_some z) b e

module _ {c : Contents} {h : Run} (law : Lawful h c) (k : Bytes) where
  -- what the contents of a lawful run have is what the run tells
  pub lawful_held : Plain k → found k c ≡ held k None h
  lawful_held p = (law.labels k p (held k None h)).1 (told-holds k h)

  pub lawful_stood : found (temporary k) c ≡ stood k None None h
  lawful_stood = go (found (temporary k) c) (stood k None None h) refl refl
    where
      go : (x y : Option Bytes) → found (temporary k) c ≡ x → stood k None None h ≡ y → x ≡ y
      go None None p q = refl
      go None (Some b) p q = none_some (sym p ∙ (law.temporaries k b).1 (told_stands k h b q))
      go (Some b) y p q = sym (stands_stood ((law.temporaries k b).0 p)) ∙ q

-- a run whose contents are what it tells is lawful
lawful_from : {c : Contents} {h : Run} → ((k : Bytes) → Plain k → found k c ≡ held k None h) → ((k : Bytes) → found (temporary k) c ≡ stood k None None h) → ((t : Bytes → Bool) → begun_in t h ≡ finished_in t h + standing_in t c + cleared_in t h) → Lawful h c
lawful_from {c} {h} x y z =
    record {
      labels = λ k p o. ((λ e. subst (Holds k h) (sym (x k p) ∙ e) (told-holds k h)), (λ w. x k p ∙ holds_held w));
      temporaries = λ k b. ((λ e. told_stands k h b (sym (y k) ∙ e)), (λ w. y k ∙ stands_stood w));
      counts = z any;
      counts_in = z;
    }

pub lawful_empty : Lawful [] []
unfolding found held stood begun_in finished_in standing_in cleared_in
lawful_empty = lawful_from (λ k p. refl) (λ k. refl) (λ t. refl)

pub lawful_on : {n : ℕ} {c c' : Contents} {h : Run} (earlier : Run) → Lawful earlier c → Ran n c h c' → PlainRun h → Lawful (earlier ++ h) c'
lawful_on {n} {c} {c'} {h} earlier law r ps =
    lawful_from
    (λ k p. ran_held k p r ps ∙ ap (λ (o : Option Bytes). held k o h) (lawful_held law k p) ∙ sym (held_append k None earlier h))
    (λ k.
    ran_stood k (held k None earlier) (λ p. lawful_held law k p) r ps
    ∙ ap (λ (s : Option Bytes). stood k (held k None earlier) s h) (lawful_stood law k)
    ∙ sym (stood_append k None None earlier h))
    (counts_on earlier r ps law.counts_in)
