-- The answers of performed calls are those that what was stored allows.
use Rattle.std.proofs.Common.{◌≡◌, ℕ, ◌+◌, min, Bool, true, not, eqb, List, Some, None, Ok, Err, Option, Result, sym, refl, ap, ◌∙◌, subst, inl, inr, arith}
use Rattle.std.proofs.lemmas.Bool.{ne_eqb}
use Rattle.keys.specs.Text.{Bytes}
use Rattle.keys.specs.declared.row.Row.{Row}
use Rattle.patches.specs.declared.Patch.{Patch}
use Rattle.ranges.specs.Buffers.{fronted}
use Rattle.storage.specs.Contents.{Contents, found, bytes_of, put, without}
use Rattle.storage.specs.Erasures.{named}
use Rattle.storage.specs.Faults.{from_key, raised, at_step, at_index}
use Rattle.storage.specs.Writes.{patched as patchedValue}
use Rattle.storage.specs.declared.fault.Fault.{Fault}
use Rattle.atomic_write.specs.Exports.{temporary, export_no, patch_export_no}
use Rattle.runs.specs.Answers.{FirstNo, Forwarded, Laid, RowFault, ByRows, Answers}
use Rattle.runs.specs.Events.{Ask, set, patch, erase, erase_many, erase_prefix, power_on, read, Reply, wrote, patched}
use Rattle.runs.specs.Readings.{zeros}
use Rattle.runs.specs.Performed.{ExportLeft, refused, unbegun, unfinished, finished, PatchLeft, asked, tried, EraseLeft, erased, kept, RowNo, no_key, below, ManyLeft, all, stopped, Performed}

-- a fault that the store below raised has a depth
pub deep-raised : (f : Fault) → not (eqb (raised f).depth 0) ≡ true
deep-raised f = ap not (ne_eqb (min (f.depth + 1) 65535) 0 (λ e. omega arith))

export_answers : {k v : Bytes} {c c' : Contents} {r : Result (Unit {0}) Fault} → ExportLeft k v c c' r → FirstNo (export_no k c) r
export_answers (refused f q e) = subst (λ (o : Option Fault). FirstNo o (Err f)) (sym q) refl
export_answers (unbegun f q e) = subst (λ (o : Option Fault). FirstNo o (Err (at_step 1 (raised f)))) (sym q) (f, inl refl)
export_answers (unfinished f q e) = subst (λ (o : Option Fault). FirstNo o (Err (at_step 2 (raised f)))) (sym q) (f, inr refl)
export_answers (finished q e) = subst (λ (o : Option Fault). FirstNo o (Ok tt)) (sym q) tt

patch_answers : {k : Bytes} {ps : List Patch} {d : Bytes} {m : ℕ} {c c' : Contents} {a : Reply} → PatchLeft k ps d m c c' a → Laid (patch_export_no k d ps (bytes_of (found k c)) m) (export_no k c) (patchedValue k d ps c) m a
patch_answers {k} {ps} {d} {m} {c} (asked f q e) = subst (λ (o : Option Fault). Laid o (export_no k c) (patchedValue k d ps c) m (patched (Err f) (zeros m))) (sym q) refl
patch_answers {k} {ps} {d} {m} {c} (tried {r} q x) =
    subst (λ (o : Option Fault). Laid o (export_no k c) (patchedValue k d ps c) m (patched r (fronted (patchedValue k d ps c) (zeros m)))) (sym q) (r, refl, export_answers x)

erase_answers : {t : Bytes → Bool} {c c' : Contents} {a : Reply} → EraseLeft t c c' a → (r : Result (Unit {0}) Fault) × (a ≡ wrote r) × Forwarded r
erase_answers (erased e) = (Ok tt, refl, tt)
erase_answers (kept f e) = (Err (raised f), refl, (f, refl))

row_answers : {w : Row} {f : Fault} (i : ℕ) → RowNo w f → RowFault w i (at_index i f)
row_answers i (no_key e k) = inl (e, k, refl)
row_answers i (below f k) = inr (k, f, refl)

many_answers : {ws : List Row} {c c' : Contents} {a : Reply} → ManyLeft ws c c' a → (r : Result (Unit {0}) Fault) × (a ≡ wrote r) × ByRows ws r
many_answers (all k e) = (Ok tt, refl, k)
many_answers (stopped before w behind f p k n e) = (Err _, refl, (before, w, behind, p, k, row_answers _ n))

pub performed_answers : (n : ℕ) (s : Ask) (a : Reply) (c c' : Contents) → Performed n s a c c' → Answers n s a c
performed_answers n (set k v) a c c' x = (x.0, x.1, export_answers x.2)
performed_answers n (patch k ps d m) a c c' x = patch_answers x
performed_answers n (erase k) a c c' x = erase_answers x
performed_answers n (erase_many ws) a c c' x = many_answers x
performed_answers n (erase_prefix p) a c c' x = erase_answers x
performed_answers n power_on a c c' x = x.0
performed_answers n (read q) a c c' x = (x.0, x.1, x.2)

-- and such an answer is one of a performed call

export_with : (k v : Bytes) (c : Contents) (o : Option Fault) (r : Result (Unit {0}) Fault) → export_no k c ≡ o → FirstNo o r → (c' : Contents) × ExportLeft k v c c' r
export_with k v c (Some f) r q x = (c, subst (ExportLeft k v c c) (sym x) (refused f q refl))
export_with k v c None (Ok u) q x = (put k v c, finished q refl)
export_with k v c None (Err f) q (g, inl e) = (c, subst (λ (y : Fault). ExportLeft k v c c (Err y)) (sym e) (unbegun g q refl))
export_with k v c None (Err f) q (g, inr e) =
    (put (temporary k) v c, subst (λ (y : Fault). ExportLeft k v c (put (temporary k) v c) (Err y)) (sym e) (unfinished g q refl))

patch_with : (k : Bytes) (ps : List Patch) (d : Bytes) (m : ℕ) (c : Contents) (a : Reply) (o : Option Fault) → patch_export_no k d ps (bytes_of (found k c)) m ≡ o → Laid o (export_no k c) (patchedValue k d ps c) m a → (c' : Contents) × PatchLeft k ps d m c c' a
patch_with k ps d m c a (Some f) q x = (c, subst (PatchLeft k ps d m c c) (sym x) (asked f q refl))
patch_with k ps d m c a None q x =
    let y = export_with k (patchedValue k d ps c) c (export_no k c) x.0 refl x.2 in
    (y.0, subst (PatchLeft k ps d m c y.0) (sym x.1) (tried q y.1))

erase_with : (t : Bytes → Bool) (c : Contents) (a : Reply) (r : Result (Unit {0}) Fault) → a ≡ wrote r → Forwarded r → (c' : Contents) × EraseLeft t c c' a
erase_with t c a (Ok u) e x = (without t c, subst (EraseLeft t c (without t c)) (sym e) (erased refl))
erase_with t c a (Err f) e x = (c, subst (EraseLeft t c c) (sym (e ∙ ap (λ (y : Fault). wrote (Err y)) x.1)) (kept x.0 refl))

many_with : (ws : List Row) (c : Contents) (a : Reply) (r : Result (Unit {0}) Fault) → a ≡ wrote r → ByRows ws r → (c' : Contents) × ManyLeft ws c c' a
many_with ws c a (Ok u) e x = (without (named ws) c, subst (ManyLeft ws c (without (named ws) c)) (sym e) (all x refl))
many_with ws c a (Err f) e (before, w, behind, p, k, inl (z, s, q)) =
    let c' = without (named before) c in
    (c', subst (ManyLeft ws c c') (sym (e ∙ ap (λ (y : Fault). wrote (Err y)) q)) (stopped before w behind (from_key z) p k (no_key z s) refl))
many_with ws c a (Err f) e (before, w, behind, p, k, inr (s, g, q)) =
    let c' = without (named before) c in
    (c', subst (ManyLeft ws c c') (sym (e ∙ ap (λ (y : Fault). wrote (Err y)) q)) (stopped before w behind (raised g) p k (below g s) refl))

pub answers_performed : (n : ℕ) (s : Ask) (a : Reply) (c : Contents) → Answers n s a c → (c' : Contents) × Performed n s a c c'
answers_performed n (set k v) a c x = let y = export_with k v c (export_no k c) x.0 refl x.2 in (y.0, (x.0, x.1, y.1))
answers_performed n (patch k ps d m) a c x = patch_with k ps d m c a (patch_export_no k d ps (bytes_of (found k c)) m) refl x
answers_performed n (erase k) a c x = erase_with _ c a x.0 x.1 x.2
answers_performed n (erase_many ws) a c x = many_with ws c a x.0 x.1 x.2
answers_performed n (erase_prefix p) a c x = erase_with _ c a x.0 x.1 x.2
answers_performed n power_on a c x = (c, (x, refl))
answers_performed n (read q) a c x = (c, (x.0, x.1, x.2, refl))
