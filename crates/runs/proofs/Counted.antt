-- The second law: the counts.
use Rattle.std.proofs.Common.{◌≡◌, ℕ, ◌+◌, Bool, true, false, ◌&&◌, ◌||◌, [], ◌∷◌, ◌++◌, None, Ok, Err, sym, refl, ap, ◌∙◌, arith}
use Rattle.std.proofs.lemmas.Bool.{and_right}
use Rattle.keys.specs.Text.{Bytes}
use Rattle.storage.specs.Contents.{Contents, same, earlier, found, put, without}
use Rattle.storage.proofs.Order.{same_true}
use Rattle.storage.proofs.Finds.{found_skip, found_here}
use Rattle.storage.proofs.Places.{entry}
use Rattle.atomic_write.specs.Exports.{temporary}
use Rattle.runs.specs.Labels.{is_temporary, Plain}
use Rattle.runs.specs.Events.{Ask, set, patch, erase, erase_many, erase_prefix, power_on, read, Reply, wrote, patched, told, Event, Run, also, done, refused_at, exports, finishing, interrupting, beginning, erases, erased_by}
use Rattle.runs.specs.Laws.{one, begun_in, finished_in, erased_in, cleared_in, standing_in}
use Rattle.runs.specs.Performed.{Ran, idle, next}
use Rattle.runs.proofs.Temporaries.{temporary_test}
use Rattle.runs.proofs.Steps.{Step, left, ended, begun, step_of}
use Rattle.runs.proofs.Held.{PlainRun}
use Rattle.runs.proofs.Stood.{none_some}

abbrev Test : Type 0
Test = Bytes → Bool

-- how a stored key counts
abbrev weight : Test → Bytes → ℕ
weight t k = one (is_temporary k && t k)

weight_plain : (t : Test) (k : Bytes) → Plain k → weight t k ≡ 0
weight_plain t k p = rw p refl

weight_temporary : (t : Test) (k : Bytes) → weight t (temporary k) ≡ one (t (temporary k))
weight_temporary t k = rw (temporary_test k) refl

-- what stands after a key is put

standing_new : (t : Test) (k v : Bytes) (c : Contents) → found k c ≡ None → standing_in t (put k v c) ≡ weight t k + standing_in t c
unfolding standing_in put
standing_new t k v [] n = refl
standing_new t k v (e ∷ es) n = go (standing_new t k v es) (same k e.key) (earlier k e.key) refl
  where
    go : (found k es ≡ None → standing_in t (put k v es) ≡ weight t k + standing_in t es) → (b d : Bool) → same k e.key ≡ b → standing_in t (elim b [ true ↦ entry k v ∷ es | false ↦ elim d [ true ↦ entry k v ∷ (e ∷ es) | false ↦ e ∷ put k v es ] ]) ≡ weight t k + (weight t e.key + standing_in t es)
    go ih true d p = none_some (sym n ∙ found_here k e es p)
    go ih false true p = refl
    go ih false false p = let i = ih (sym (found_skip k e es p) ∙ n) in omega arith

standing_plain : (t : Test) (k v : Bytes) (c : Contents) → Plain k → standing_in t (put k v c) ≡ standing_in t c
unfolding standing_in put
standing_plain t k v [] z = let w = weight_plain t k z in omega arith
standing_plain t k v (e ∷ es) z = go (standing_plain t k v es z) (same k e.key) (earlier k e.key) refl
  where
    go : standing_in t (put k v es) ≡ standing_in t es → (b d : Bool) → same k e.key ≡ b → standing_in t (elim b [ true ↦ entry k v ∷ es | false ↦ elim d [ true ↦ entry k v ∷ (e ∷ es) | false ↦ e ∷ put k v es ] ]) ≡ weight t e.key + standing_in t es
    go ih true d p = ap (λ (x : Bytes). weight t x + standing_in t es) (same_true k e.key p)
    go ih false true p = let w = weight_plain t k z in omega arith
    go ih false false p = omega arith

-- the keys that pass t, and that the run erases
abbrev leaving : Test → Run → Test
leaving t h k = t k && erased_in h k

-- an erasure takes as many from those that stand as it erases of them
standing_erased : (t u w : Test) (c : Contents) → standing_in t c + standing_in (λ k. t k && w k) (without u c) ≡ standing_in t (without u c) + standing_in (λ k. t k && (u k || w k)) c
unfolding standing_in without
standing_erased t u w [] = refl
standing_erased t u w (e ∷ es) = go (standing_erased t u w es) (u e.key) refl
  where
    hit : (x y a : Bool) → one (x && (y && (true || a))) ≡ one (x && y)
    hit false y a = refl
    hit true false a = refl
    hit true true a = refl

    go : standing_in t es + standing_in (λ k. t k && w k) (without u es) ≡ standing_in t (without u es) + standing_in (λ k. t k && (u k || w k)) es → (b : Bool) → u e.key ≡ b → (weight t e.key + standing_in t es) + standing_in (λ k. t k && w k) (elim b [ true ↦ without u es | false ↦ e ∷ without u es ]) ≡ standing_in t (elim b [ true ↦ without u es | false ↦ e ∷ without u es ]) + (one (is_temporary e.key && (t e.key && (u e.key || w e.key))) + standing_in (λ k. t k && (u k || w k)) es)
    go ih true q = let m = hit (is_temporary e.key) (t e.key) (w e.key) in rw q (omega arith)
    go ih false q = rw q (omega arith)

standing_same : (t u : Test) → ((k : Bytes) → t k ≡ u k) → (c : Contents) → standing_in t c ≡ standing_in u c
unfolding standing_in
standing_same t u s [] = refl
standing_same t u s (e ∷ c) = let i = standing_same t u s c in let h = ap (λ (b : Bool). one (is_temporary e.key && b)) (s e.key) in omega arith

standing_none : (t : Test) → ((k : Bytes) → t k ≡ false) → (c : Contents) → standing_in t c ≡ 0
unfolding standing_in
standing_none t s [] = refl
standing_none t s (e ∷ c) = let i = standing_none t s c in let h = ap one (and_right (is_temporary e.key) (t e.key) (s e.key)) in omega arith

-- the labels whose temporary passes t
abbrev labelled : Test → Test
labelled t k = t (temporary k)

-- one event, before those of h
abbrev Counts : Test → Event → Run → Contents → Contents → Type 0
Counts t e h c c' =
    standing_in t c + one (beginning (labelled t) e) + standing_in (leaving t h) c' ≡ one (finishing (labelled t) e) + standing_in t c' + one (interrupting (λ k. t (temporary k) && erased_in h (temporary k)) e) + standing_in (leaving t (e ∷ h)) c

or_false : (b : Bool) → (b || false) ≡ b
or_false true = refl
or_false false = refl

-- an event that erases nothing
leaving_same : (t : Test) (e : Event) (h : Run) (c : Contents) → ((k : Bytes) → erases k e ≡ false) → standing_in (leaving t (e ∷ h)) c ≡ standing_in (leaving t h) c
unfolding erased_in
leaving_same t e h c n = standing_same (leaving t (e ∷ h)) (leaving t h) (λ k. ap (λ (b : Bool). t k && (b || erased_in h k)) (n k)) c

step_counts : (t : Test) (e : Event) (h : Run) (c c' : Contents) → Step e c c' → Counts t e h c c'
unfolding erased_in
step_counts t e h c c' (left f a q) =
    let u = erased_by e.ask e.reply in
    let b : one (beginning (labelled t) e) ≡ 0 = rw (f (labelled t), a (labelled t)) refl in
    let f0 = ap one (f (labelled t)) in
    let a0 = ap one (a (λ k. t (temporary k) && erased_in h (temporary k))) in
    let s = ap (standing_in t) q in
    let l = ap (standing_in (leaving t h)) q in
    let m = standing_erased t u (erased_in h) c in
    omega arith
step_counts t e h c c' (ended j p n f a r q) =
    let b : one (beginning (labelled t) e) ≡ one (t (temporary j)) = rw (f (labelled t), a (labelled t)) (ap one (or_false (t (temporary j)))) in
    let f1 = ap one (f (labelled t)) in
    let a0 = ap one (a (λ k. t (temporary k) && erased_in h (temporary k))) in
    let s = ap (standing_in t) q ∙ standing_plain t j _ c p in
    let l = ap (standing_in (leaving t h)) q ∙ standing_plain (leaving t h) j _ c p in
    let m = leaving_same t e h c r in
    omega arith
step_counts t e h c c' (begun j p n f a r q) =
    let b : one (beginning (labelled t) e) ≡ one (t (temporary j)) = rw (f (labelled t), a (labelled t)) refl in
    let f0 = ap one (f (labelled t)) in
    let a1 = ap one (a (λ k. t (temporary k) && erased_in h (temporary k))) in
    let s = ap (standing_in t) q ∙ standing_new t (temporary j) _ c n in
    let l = ap (standing_in (leaving t h)) q ∙ standing_new (leaving t h) (temporary j) _ c n in
    let w = weight_temporary t j in
    let x = weight_temporary (leaving t h) j in
    let m = leaving_same t e h c r in
    omega arith

ran_counts : {n : ℕ} {c c' : Contents} {h : Run} (t : Test) → Ran n c h c' → PlainRun h → standing_in t c + begun_in t h ≡ finished_in t h + standing_in t c' + cleared_in t h + standing_in (leaving t h) c
unfolding begun_in finished_in cleared_in erased_in
ran_counts t (idle {c}) ps = let l = standing_none (leaving t []) (λ k. and_right (t k) false refl) c in omega arith
ran_counts {n} t (next {c} {c'} {c''} {e} {h} x r) (also p ps) =
    let i = ran_counts t r ps in
    let m = step_counts t e h c c' (step_of n e.ask e.reply c c' p x) in
    omega arith

-- counts of one run after another

begun_append : (t : Test) (a b : Run) → begun_in t (a ++ b) ≡ begun_in t a + begun_in t b
unfolding begun_in
begun_append t [] b = omega arith
begun_append t (e ∷ a) b = let i = begun_append t a b in omega arith

finished_append : (t : Test) (a b : Run) → finished_in t (a ++ b) ≡ finished_in t a + finished_in t b
unfolding finished_in
finished_append t [] b = omega arith
finished_append t (e ∷ a) b = let i = finished_append t a b in omega arith

erased_append : (k : Bytes) (a b : Run) → erased_in (a ++ b) k ≡ (erased_in a k || erased_in b k)
unfolding erased_in
erased_append k [] b = refl
erased_append k (e ∷ a) b = go (erases k e) (erased_append k a b)
  where
    go : (x : Bool) → erased_in (a ++ b) k ≡ (erased_in a k || erased_in b k) → (x || erased_in (a ++ b) k) ≡ ((x || erased_in a k) || erased_in b k)
    go true i = refl
    go false i = i

-- an export is finished or unfinished, not both
begins_once : (u : Test) (s : Ask) (a : Reply) → one ((done a && exports u s) || (refused_at 2 a && exports u s)) ≡ one (done a && exports u s) + one (refused_at 2 a && exports u s)
begins_once u s (wrote (Ok x)) = ap one (or_false (exports u s)) ∙ omega arith
begins_once u s (wrote (Err f)) = omega arith
begins_once u s (patched (Ok x) w) = ap one (or_false (exports u s)) ∙ omega arith
begins_once u s (patched (Err f) w) = omega arith
begins_once u s (told x) = refl

-- of what passes either of two tests, both, and each
either_both : (d t a b : Bool) → one (d && (t && (a || b))) + one (d && ((t && b) && a)) ≡ one (d && (t && a)) + one (d && (t && b))
either_both false t a b = refl
either_both true false a b = refl
either_both true true true true = refl
either_both true true true false = refl
either_both true true false true = refl
either_both true true false false = refl

exports_either : (d : Bool) (t a b : Test) (s : Ask) → one (d && exports (λ k. t k && (a k || b k)) s) + one (d && exports (λ k. (t k && b k) && a k) s) ≡ one (d && exports (λ k. t k && a k) s) + one (d && exports (λ k. t k && b k) s)
exports_either d t a b (set j v) = either_both d (t j) (a j) (b j)
exports_either d t a b (patch j ps w n) = either_both d (t j) (a j) (b j)
exports_either d t a b (erase j) = refl
exports_either d t a b (erase_many rs) = refl
exports_either d t a b (erase_prefix q) = refl
exports_either d t a b power_on = refl
exports_either d t a b (read q) = refl

-- what a later run clears of the exports of this one
cleared_append : (t : Test) (a h : Run) → cleared_in t (a ++ h) + finished_in (leaving t h) a + cleared_in (leaving t h) a ≡ cleared_in t a + begun_in (leaving t h) a + cleared_in t h
unfolding cleared_in finished_in begun_in
cleared_append t [] h = omega arith
cleared_append t (e ∷ a) h =
    let i = cleared_append t a h in
    let x : one (interrupting (λ k. t (temporary k) && erased_in (a ++ h) (temporary k)) e) ≡ one (interrupting (λ k. t (temporary k) && (erased_in a (temporary k) || erased_in h (temporary k))) e)
    = ap (λ (u : Test). one (interrupting u e)) (λ i k. t (temporary k) && erased_append (temporary k) a h i) in
    let y = exports_either (refused_at 2 e.reply) (labelled t) (λ k. erased_in a (temporary k)) (λ k. erased_in h (temporary k)) e.ask in
    let z = begins_once (labelled (leaving t h)) e.ask e.reply in
    omega arith

-- the counts of a run, and of what followed it
pub counts_on : {n : ℕ} {c c' : Contents} {h : Run} (earlier : Run) → Ran n c h c' → PlainRun h → ((t : Test) → begun_in t earlier ≡ finished_in t earlier + standing_in t c + cleared_in t earlier) → (t : Test) → begun_in t (earlier ++ h) ≡ finished_in t (earlier ++ h) + standing_in t c' + cleared_in t (earlier ++ h)
counts_on {h = h} earlier r ps law t =
    let m = ran_counts t r ps in
    let x = law t in
    let y = law (leaving t h) in
    let z = cleared_append t earlier h in
    let b = begun_append t earlier h in
    let f = finished_append t earlier h in
    omega arith
