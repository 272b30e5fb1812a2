-- The third law: what lies under a prefix, and the answers there, follow from the calls that touch it.
use Rattle.std.proofs.Common.{◌≡◌, ℕ, Bool, true, false, cond, ◌||◌, List, [], ◌∷◌, ◌++◌, is_some, Some, None, Ok, Err, filter, Option, Result, sym, refl, ap, ◌∙◌, subst, append_assoc, arith}
use Rattle.std.proofs.lemmas.List.Elements.{filter-append}
use Rattle.std.specs.List.{flat_map}
use Rattle.keys.specs.Text.{Bytes, PrefixText}
use Rattle.keys.specs.Rows.{row_text}
use Rattle.keys.specs.declared.row.Row.{Row}
use Rattle.ranges.specs.Buffers.{fronted}
use Rattle.patches.specs.Patches.{laid_all}
use Rattle.patches.specs.declared.Patch.{Patch}
use Rattle.storage.specs.Contents.{Contents, same, under, found, bytes_of, put, without, Ascending}
use Rattle.storage.specs.Erasures.{named}
use Rattle.storage.specs.declared.fault.Fault.{Fault}
use Rattle.storage.proofs.Order.{clash, same_true}
use Rattle.storage.proofs.Ascends.{ascending-without}
use Rattle.storage.proofs.Finds.{without_none, without_both}
use Rattle.atomic_write.specs.Exports.{temporary, temporary_no, or_else, standing_no, export_no, patch_export_no}
use Rattle.runs.specs.Labels.{within}
use Rattle.runs.specs.Events.{Ask, set, patch, erase, erase_many, erase_prefix, power_on, read, Reply, wrote, patched, told, Readout, Event, Run, also, reached}
use Rattle.runs.specs.Laws.{touches, erasures, counts_as, touching, asks_of, Alike, deep, refused_below, Unrefused, SameOn}
use Rattle.runs.specs.Performed.{ExportLeft, refused, unbegun, unfinished, finished, PatchLeft, asked, tried, EraseLeft, erased, kept, ManyLeft, all, stopped, Performed, Ran, idle, next}
use Rattle.runs.specs.Readings.{zeros, Reads}
use Rattle.runs.proofs.Temporaries.{under-temporary}
use Rattle.runs.proofs.Within.{ascending-put, within-put, within-put_off, within-without, within-without_off, found_within, under_either}
use Rattle.runs.proofs.Replies.{deep-raised}
use Rattle.runs.proofs.Steps.{many_left}
use Rattle.runs.proofs.Local.{reads-one, reads_local}

-- a call that no store below refuses, made where x is stored: what it leaves, and its answer

abbrev exported : Option Fault → Bytes → Bytes → Contents → Contents
exported (Some f) k v x = x
exported None k v x = put k v x

abbrev export_reply : Option Fault → Result (Unit {0}) Fault
export_reply (Some f) = Err f
export_reply None = Ok tt

abbrev patched_after : Option Fault → Option Fault → Bytes → Bytes → Contents → Contents
patched_after (Some f) o k v x = x
patched_after None o k v x = exported o k v x

abbrev patch_reply : Option Fault → Option Fault → Bytes → ℕ → Reply
patch_reply (Some f) o v n = patched (Err f) (zeros n)
patch_reply None o v n = patched (export_reply o) (fronted v (zeros n))

-- the value that a patch makes
abbrev new_value : Bytes → List Patch → Bytes → Contents → Bytes
new_value k ps d x = laid_all d ps (bytes_of (found k x))

abbrev after : Ask → Contents → Contents
after (set k v) x = exported (export_no k x) k v x
after (patch k ps d n) x = patched_after (patch_export_no k d ps (bytes_of (found k x)) n) (export_no k x) k (new_value k ps d x) x
after (erase k) x = without (λ j. same j k) x
after (erase_many rs) x = x
after (erase_prefix q) x = without (under q) x
after power_on x = x
after (read q) x = x

-- the call s, made where x is stored, is answered a
abbrev Replies : ℕ → Ask → Reply → Contents → Type 0
Replies n (set k v) a x = a ≡ wrote (export_reply (export_no k x))
Replies n (patch k ps d m) a x = a ≡ patch_reply (patch_export_no k d ps (bytes_of (found k x)) m) (export_no k x) (new_value k ps d x) m
Replies n (erase k) a x = a ≡ wrote (Ok tt)
Replies n (erase_many rs) a x = a ≡ wrote (Ok tt)
Replies n (erase_prefix q) a x = a ≡ wrote (Ok tt)
Replies n power_on a x = a ≡ wrote (Ok tt)
Replies n (read q) a x = (y : Readout) × (a ≡ told y) × Reads n q x y

replies_one : (n : ℕ) (s : Ask) (a b : Reply) (x : Contents) → Replies n s a x → Replies n s b x → a ≡ b
replies_one n (set k v) a b x p q = p ∙ sym q
replies_one n (patch k ps d m) a b x p q = p ∙ sym q
replies_one n (erase k) a b x p q = p ∙ sym q
replies_one n (erase_many rs) a b x p q = p ∙ sym q
replies_one n (erase_prefix r) a b x p q = p ∙ sym q
replies_one n power_on a b x p q = p ∙ sym q
replies_one n (read r) a b x p q = p.1 ∙ ap told (reads-one n r x p.0 q.0 p.2 q.2) ∙ sym q.1

-- calls with their answers, from x to y
unfoldable Plays : ℕ → Run → Contents → Contents → Type 0
Plays n [] x y = y ≡ x
Plays n (e ∷ h) x y = Replies n e.ask e.reply x × Plays n h (after e.ask x) y

plays_append : (n : ℕ) (h g : Run) (x y z : Contents) → Plays n h x y → Plays n g y z → Plays n (h ++ g) x z
unfolding Plays
plays_append n [] g x y z a b = subst (λ (w : Contents). Plays n g w z) a b
plays_append n (e ∷ h) g x y z a b = (a.0, plays_append n h g (after e.ask x) y z a.1 b)

-- the calls decide the answers, and what is left
plays_same : (n : ℕ) (h g : Run) (x y z : Contents) → asks_of h ≡ asks_of g → Plays n h x y → Plays n g x z → (h ≡ g) × (y ≡ z)
unfolding Plays
plays_same n [] [] x y z e a b = (refl, a ∙ sym b)
plays_same n [] (d ∷ g) x y z e a b = let q : ◌≡◌ {A = ℕ} 0 1 = cc in absurd (omega arith)
plays_same n (e ∷ h) [] x y z i a b = let q : ◌≡◌ {A = ℕ} 0 1 = cc in absurd (omega arith)
plays_same n (e ∷ h) (d ∷ g) x y z i a b =
    let s : e.ask ≡ d.ask = cc in
    let t : asks_of h ≡ asks_of g = cc in
    let r = replies_one n e.ask e.reply d.reply x a.0 (subst (λ (w : Ask). Replies n w d.reply x) (sym s) b.0) in
    let m = plays_same n h g (after e.ask x) y z t a.1 (subst (λ (w : Ask). Plays n g (after w x) z) (sym s) b.1) in
    ((λ j. record { ask = s j; reply = r j } ∷ m.0 j), m.1)

-- the order is kept

export_ascending : {k v : Bytes} {c c' : Contents} {r : Result (Unit {0}) Fault} → ExportLeft k v c c' r → Ascending c → Ascending c'
export_ascending (refused f q e) a = subst Ascending (sym e) a
export_ascending (unbegun f q e) a = subst Ascending (sym e) a
export_ascending {k} {v} {c} (unfinished f q e) a = subst Ascending (sym e) (ascending-put (temporary k) v c a)
export_ascending {k} {v} {c} (finished q e) a = subst Ascending (sym e) (ascending-put k v c a)

patch_ascending : {k : Bytes} {ps : List Patch} {d : Bytes} {n : ℕ} {c c' : Contents} {r : Reply} → PatchLeft k ps d n c c' r → Ascending c → Ascending c'
patch_ascending (asked f q e) a = subst Ascending (sym e) a
patch_ascending (tried q x) a = export_ascending x a

erase_ascending : {t : Bytes → Bool} {c c' : Contents} {r : Reply} → EraseLeft t c c' r → Ascending c → Ascending c'
erase_ascending {t} {c} (erased e) a = subst Ascending (sym e) (ascending-without t c a)
erase_ascending (kept f e) a = subst Ascending (sym e) a

many-ascending : {rs : List Row} {c c' : Contents} {r : Reply} → ManyLeft rs c c' r → Ascending c → Ascending c'
many-ascending {rs} {c} (all k e) a = subst Ascending (sym e) (ascending-without _ c a)
many-ascending {rs} {c} (stopped b w t f p k n e) a = subst Ascending (sym e) (ascending-without _ c a)

pub performed_ascending : (n : ℕ) (s : Ask) (r : Reply) (c c' : Contents) → Performed n s r c c' → Ascending c → Ascending c'
performed_ascending n (set k v) r c c' x a = export_ascending x.2 a
performed_ascending n (patch k ps d m) r c c' x a = patch_ascending x a
performed_ascending n (erase k) r c c' x a = erase_ascending x a
performed_ascending n (erase_many rs) r c c' x a = many-ascending x a
performed_ascending n (erase_prefix q) r c c' x a = erase_ascending x a
performed_ascending n power_on r c c' x a = subst Ascending (sym x.1) a
performed_ascending n (read q) r c c' x a = subst Ascending (sym x.3) a

module _ (p : Bytes) (pt : PrefixText p) where
  -- the questions of an export under p are answered by what lies there
  export_no_lem : (k : Bytes) (c : Contents) → under p k ≡ true → export_no k (within p c) ≡ export_no k c
  export_no_lem k c u = ap (λ (v : Option Bytes). or_else (temporary_no k) (standing_no (is_some v))) (found_within p (temporary k) c (under-temporary p k pt ∙ u))

  -- a call that touches p

  export_alike : {k v : Bytes} {c c' : Contents} {r : Result (Unit {0}) Fault} → ExportLeft k v c c' r → deep r ≡ false → under p k ≡ true → Ascending c → (r ≡ export_reply (export_no k c)) × (within p c' ≡ exported (export_no k c) k v (within p c))
  export_alike {k} {v} {c} {c'} (refused f q e) z u a =
      subst (λ (o : Option Fault). (Err f ≡ export_reply o) × (within p c' ≡ exported o k v (within p c))) (sym q) (refl, ap (within p) e)
  export_alike (unbegun f q e) z u a = clash _ (deep-raised f) z
  export_alike (unfinished f q e) z u a = clash _ (deep-raised f) z
  export_alike {k} {v} {c} {c'} (finished q e) z u a =
      subst (λ (o : Option Fault). (Ok tt ≡ export_reply o) × (within p c' ≡ exported o k v (within p c))) (sym q) (refl, ap (within p) e ∙ within-put p k v c a u)

  set_alike : (k v : Bytes) (r : Reply) (c c' : Contents) → (q : Result (Unit {0}) Fault) × (r ≡ wrote q) × ExportLeft k v c c' q → refused_below r ≡ false → under p k ≡ true → Ascending c → (r ≡ wrote (export_reply (export_no k (within p c)))) × (within p c' ≡ exported (export_no k (within p c)) k v (within p c))
  set_alike k v r c c' x z u a =
      let i = export_alike x.2 (ap refused_below (sym x.1) ∙ z) u a in
      let o = sym (export_no_lem k c u) in
      (x.1 ∙ ap wrote (i.0 ∙ ap export_reply o), i.1 ∙ ap (λ (y : Option Fault). exported y k v (within p c)) o)

  -- a patch's answer and what it leaves, of the value before, the questions and the questions of its export
  abbrev PatchIs : Bytes → List Patch → Bytes → ℕ → Reply → Contents → Contents → Option Bytes → Option Fault → Option Fault → Type 0
  PatchIs k ps d m r x x' v o e =
      (r ≡ patch_reply o e (laid_all d ps (bytes_of v)) m) × (x' ≡ patched_after o e k (laid_all d ps (bytes_of v)) x)

  patch_alike : {k : Bytes} {ps : List Patch} {d : Bytes} {m : ℕ} {c c' : Contents} {r : Reply} → PatchLeft k ps d m c c' r → refused_below r ≡ false → under p k ≡ true → Ascending c → PatchIs k ps d m r (within p c) (within p c') (found k (within p c)) (patch_export_no k d ps (bytes_of (found k (within p c))) m) (export_no k (within p c))
  patch_alike {k} {ps} {d} {m} {c} {c'} {r} x z u a =
      subst (λ (v : Option Bytes). PatchIs k ps d m r (within p c) (within p c') v (patch_export_no k d ps (bytes_of v) m) (export_no k (within p c))) (sym (found_within p k c u))
      (subst (PatchIs k ps d m r (within p c) (within p c') (found k c) (patch_export_no k d ps (bytes_of (found k c)) m)) (sym (export_no_lem k c u)) (go x z))
    where
      go : {r : Reply} → PatchLeft k ps d m c c' r → refused_below r ≡ false → PatchIs k ps d m r (within p c) (within p c') (found k c) (patch_export_no k d ps (bytes_of (found k c)) m) (export_no k c)
      go (asked f q e) z =
          subst (λ (o : Option Fault). PatchIs k ps d m (patched (Err f) (zeros m)) (within p c) (within p c') (found k c) o (export_no k c)) (sym q) (refl, ap (within p) e)
      go (tried {r} q x) z =
          let i = export_alike x z u a in
          let new = new_value k ps d c in
          subst (λ (o : Option Fault). PatchIs k ps d m (patched r (fronted new (zeros m))) (within p c) (within p c') (found k c) o (export_no k c)) (sym q)
          (ap (λ (y : Result (Unit {0}) Fault). patched y (fronted new (zeros m))) i.0, i.1)

  -- a call that does not touch p

  export_elsewhere : {k v : Bytes} {c c' : Contents} {r : Result (Unit {0}) Fault} → ExportLeft k v c c' r → under p k ≡ false → within p c' ≡ within p c
  export_elsewhere (refused f q e) u = ap (within p) e
  export_elsewhere (unbegun f q e) u = ap (within p) e
  export_elsewhere {k} {v} {c} (unfinished f q e) u = ap (within p) e ∙ within-put_off p (temporary k) v c (under-temporary p k pt ∙ u)
  export_elsewhere {k} {v} {c} (finished q e) u = ap (within p) e ∙ within-put_off p k v c u

  patch_elsewhere : {k : Bytes} {ps : List Patch} {d : Bytes} {m : ℕ} {c c' : Contents} {r : Reply} → PatchLeft k ps d m c c' r → under p k ≡ false → within p c' ≡ within p c
  patch_elsewhere (asked f q e) u = ap (within p) e
  patch_elsewhere (tried q x) u = export_elsewhere x u

  erase_elsewhere : {t : Bytes → Bool} {c c' : Contents} {r : Reply} → EraseLeft t c c' r → ((k : Bytes) → t k ≡ true → under p k ≡ false) → within p c' ≡ within p c
  erase_elsewhere {t} {c} (erased e) u = ap (within p) e ∙ within-without_off p t c u
  erase_elsewhere (kept f e) u = ap (within p) e

  erase_alike : {t : Bytes → Bool} {c c' : Contents} {r : Reply} → EraseLeft t c c' r → refused_below r ≡ false → (r ≡ wrote (Ok tt)) × (within p c' ≡ without t (within p c))
  erase_alike {t} {c} (erased e) z = (refl, ap (within p) e ∙ within-without p t c)
  erase_alike (kept f e) z = clash _ (deep-raised f) z

  off_key : (k : Bytes) → under p k ≡ false → (j : Bytes) → same j k ≡ true → under p j ≡ false
  off_key k u j e = ap (under p) (same_true j k e) ∙ u

  -- two prefixes of one key: one begins with the other
  off_prefix : (q : Bytes) → (under p q || under q p) ≡ false → (k : Bytes) → under q k ≡ true → under p k ≡ false
  off_prefix q u k e = go (under p k) refl
    where
      go : (b : Bool) → under p k ≡ b → b ≡ false
      go true w = clash _ (under_either p q k w e) u
      go false w = refl

  module _ (n : ℕ) where
    -- the calls on p, with their answers, from what lay there to what lies there
    abbrev Decided : Run → Contents → Contents → Type 0
    Decided h c c' = Plays n h (within p c) (within p c')

    abbrev on : Event → Bool
    on e = touches p e.ask

    -- one call
    decided_one : (s : Ask) (r : Reply) (c c' : Contents) → (touches p s ≡ true → Replies n s r (within p c) × (within p c' ≡ after s (within p c))) → (touches p s ≡ false → within p c' ≡ within p c) → Decided (filter on (record { ask = s; reply = r } ∷ [])) c c'
    unfolding Plays
    decided_one s r c c' there elsewhere = go (touches p s) refl
      where
        go : (b : Bool) → touches p s ≡ b → Decided (cond b (record { ask = s; reply = r } ∷ []) []) c c'
        go true u = ((there u).0, (there u).1)
        go false u = elsewhere u

    -- the erasures of an erase_many, one after the other
    decided_many : (ws : List Row) (c c' : Contents) → c' ≡ without (named ws) c → Decided (filter on (erasures ws)) c c'
    unfolding named Plays
    decided_many [] c c' e = ap (within p) (e ∙ without_none (named []) (λ k. refl) c)
    decided_many (w ∷ ws) c c' e =
        let k = row_text w in
        let c₁ = without (λ j. same j k) c in
        let one = decided_one (erase k) (wrote (Ok tt)) c c₁ (λ u. (refl, within-without p (λ j. same j k) c)) (λ u. within-without_off p (λ j. same j k) c (off_key k u)) in
        let rest = decided_many ws c₁ c' (e ∙ sym (without_both (λ j. same j k) (named ws) c)) in
        subst (λ (h : Run). Decided h c c') (sym (filter-append on (record { ask = erase k; reply = wrote (Ok tt) } ∷ []) (erasures ws)))
        (plays_append n _ _ (within p c) (within p c₁) (within p c') one rest)

    performed_decided : (s : Ask) (r : Reply) (c c' : Contents) → Performed n s r c c' → refused_below r ≡ false → Ascending c → Decided (filter on (counts_as s r)) c c'
    performed_decided (set k v) r c c' x z a = decided_one (set k v) r c c' (λ u. set_alike k v r c c' x z u a) (λ u. export_elsewhere x.2 u)
    performed_decided (patch k ps d m) r c c' x z a = decided_one (patch k ps d m) r c c' (λ u. patch_alike x z u a) (λ u. patch_elsewhere x u)
    performed_decided (erase k) r c c' x z a = decided_one (erase k) r c c' (λ u. erase_alike x z) (λ u. erase_elsewhere x (off_key k u))
    performed_decided (erase_many rs) r c c' x z a = decided_many (reached r rs) c c' (many_left rs x)
    performed_decided (erase_prefix q) r c c' x z a = decided_one (erase_prefix q) r c c' (λ u. erase_alike x z) (λ u. erase_elsewhere x (off_prefix q u))
    performed_decided power_on r c c' x z a = decided_one power_on r c c' (λ u. (x.0, ap (within p) x.1)) (λ u. ap (within p) x.1)
    performed_decided (read q) r c c' x z a = decided_one (read q) r c c' (λ u. ((x.0, x.1, reads_local p n q c x.0 u x.2), ap (within p) x.3)) (λ u. ap (within p) x.3)

    ran_decided : {c c' : Contents} {h : Run} → Ran n c h c' → Unrefused h → Ascending c → Decided (touching p h) c c'
    unfolding touching Plays
    ran_decided idle us a = refl
    ran_decided (next {c} {c'} {c''} {e} {h} x r) (also u us) a =
        subst (λ (g : Run). Decided g c c'') (sym (filter-append on (counts_as e.ask e.reply) (flat_map (λ y. counts_as y.ask y.reply) h)))
        (plays_append n _ _ (within p c) (within p c') (within p c'') (performed_decided e.ask e.reply c c' x u a) (ran_decided r us (performed_ascending n e.ask e.reply c c' x a)))

joined_append : (h g : Run) → flat_map (λ e. counts_as e.ask e.reply) (h ++ g) ≡ flat_map (λ e. counts_as e.ask e.reply) h ++ flat_map (λ e. counts_as e.ask e.reply) g
joined_append [] g = refl
joined_append (e ∷ h) g =
    ap (λ (r : Run). counts_as e.ask e.reply ++ r) (joined_append h g) ∙ sym (append_assoc (counts_as e.ask e.reply) _ _)

touching-append : (p : Bytes) (h g : Run) → touching p (h ++ g) ≡ touching p h ++ touching p g
unfolding touching
touching-append p h g =
    ap (filter (λ e. touches p e.ask)) (joined_append h g)
    ∙ filter-append (λ e. touches p e.ask) (flat_map (λ e. counts_as e.ask e.reply) h) (flat_map (λ e. counts_as e.ask e.reply) g)

-- two runs that are alike on p, after two that were the same there
pub same_on : {n : ℕ} {c c' d d' : Contents} {h g : Run} (p : Bytes) (earlier before : Run) → PrefixText p → Ran n c h c' → Ran n d g d' → Ascending c → Ascending d → Unrefused h → Unrefused g → Alike p h g → SameOn p earlier before c d → SameOn p (earlier ++ h) (before ++ g) c' d'
same_on {n} {c} {c'} {d} {d'} {h} {g} p earlier before pt r q a b u w alike was =
    let x = ran_decided p pt n r u a in
    let y = subst (λ (z : Contents). Plays n (touching p g) z (within p d')) (sym was.labels) (ran_decided p pt n q w b) in
    let m = plays_same n (touching p h) (touching p g) (within p c) (within p c') (within p d') alike x y in
    record {
      labels = m.1;
      answers = touching-append p earlier h ∙ (λ i. was.answers i ++ m.0 i) ∙ sym (touching-append p before g);
    }
