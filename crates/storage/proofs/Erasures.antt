-- Erasing keys that lie as rows: one, and many in turn.
use Rattle.std.proofs.Common.{◌≡◌, ℕ, ◌+◌, ◌<◌, ◌≤◌, Bool, true, false, ◌||◌, List, [], ◌∷◌, ◌++◌, length, get_or, take, drop, IfErr, Ok, Err, Result, sym, refl, ap, ◌∙◌, inl, inr, arith}
use Rattle.std.specs.List.{AllByRecursion}
use Rattle.std.proofs.ByRecursion.{All-more}
use Rattle.std.proofs.lemmas.List.{take_more, drop_more, take-append-drop, take_all, length-take-le}
use Rattle.std.proofs.lemmas.Bool.{cases_lt}
use Rattle.keys.specs.Text.{Bytes}
use Rattle.keys.specs.StoreKeys.{text}
use Rattle.keys.specs.Rows.{row_text, AsKey}
use Rattle.keys.specs.declared.row.Row.{Row}
use Rattle.keys.specs.declared.store_key.StoreKey.{StoreKey}
use Rattle.keys.specs.declared.store_key.StoreKeyError.{StoreKeyError}
use Rattle.storage.specs.Contents.{Contents, same, without}
use Rattle.storage.specs.Erasures.{KeyRow, named, RowRefused, no_key, by_verdict, RowErased, Stopped}
use Rattle.storage.specs.Faults.{from_key, at_index}
use Rattle.storage.specs.Stores.{Wrote}
use Rattle.storage.specs.Writes.{erase, Ruled, Verdict}
use Rattle.storage.specs.declared.fault.Fault.{Fault}
use Rattle.storage.specs.declared.storage_sync.ReadableStorageTraits.{Ghosts}
use Rattle.storage.proofs.Finds.{without_none, without-same, without_both}
use Rattle.storage.proofs.Order.{clash}

-- a row that was made a key
key_row : (w : Row) (k : StoreKey) → AsKey w (Ok k) → KeyRow w
key_row w k h = elim (cases_lt 120 w.len) [ inl lt ↦ (let z = h.1 lt in absurd (let z : ◌≡◌ {A = ℕ} 0 1 = cc in omega arith)) | inr le ↦ (le, h.0.1) ]

module _ {S : Type 0} (m : Ghosts S) (w : Row) where
  -- no key
  pub row_no_key : (e : StoreKeyError) (f : Fault) (s : S) → AsKey w (Err e) → f ≡ from_key e → RowErased {A = Unit {0}} m w (Err f) s s
  row_no_key e f s h is = rw is (record { accepted = λ q. clash false q refl; tidily = λ _. (no_key e h, refl) })

  -- a key
  pub row_key : (k : StoreKey) (r : Result (Unit {0}) Fault) (s s' : S) → AsKey w (Ok k) → Wrote m (erase (text k)) r s s' → RowErased m w r s s'
  row_key k r s s' h b =
      record {
        accepted = λ e. (key_row w k h, b.accepted e ∙ ap (λ (t : Bytes). without (λ j. same j t) (m.contents s)) h.0.2);
        tidily = λ t. go r (b.tidily t);
      }
    where
      go : (r : Result (Unit {0}) Fault) → Ruled (erase (text k)) r (m.contents s) (m.contents s') (m.verdict s) (m.verdict s') → IfErr r (λ f. RowRefused w (m.verdict s') f × (m.contents s' ≡ m.contents s))
      go (Ok u) d = tt
      go (Err f) d = (by_verdict f (key_row w k h) (ap (λ (t : Bytes). m.verdict s' (erase t)) (sym h.0.2) ∙ d.1.1 (erase (text k)) ∙ d.0), d.1.0)

-- the texts of rows
or_false : (b : Bool) → (b || false) ≡ b
or_false true = refl
or_false false = refl

or_assoc : (a b c : Bool) → ((a || b) || c) ≡ (a || (b || c))
or_assoc true b c = refl
or_assoc false b c = refl

named_push : (ws : List Row) (w : Row) (k : Bytes) → (named ws k || same k (row_text w)) ≡ named (ws ++ (w ∷ [])) k
unfolding named
named_push [] w k = sym (or_false (same k (row_text w)))
named_push (x ∷ ws) w k = or_assoc (same k (row_text x)) (named ws k) (same k (row_text w)) ∙ ap (λ (b : Bool). same k (row_text x) || b) (named_push ws w k)

-- the rows before the i-th were erased
pub record Erased (ws : List Row) (i : ℕ) (c c' : Contents) : Type 0 where
  pub keys : AllByRecursion KeyRow (take i ws)
  pub gone : c' ≡ without (named (take i ws)) c

pub erased_none : (ws : List Row) (c : Contents) → Erased ws 0 c c
unfolding named
erased_none ws c = record { keys = tt; gone = sym (without_none (named []) (λ k. refl) c) }

module _ (ws : List Row) (i : ℕ) (d : Row) (c c₁ : Contents) (lt : i < length ws) (h : Erased ws i c c₁) where
  pub erased_more : (c₂ : Contents) → KeyRow (get_or ws i d) × (c₂ ≡ without (λ j. same j (row_text (get_or ws i d))) c₁) → Erased ws (i + 1) c c₂
  erased_more c₂ (key, e) =
      record {
        keys = All-more KeyRow ws i d lt h.keys key;
        gone = e
            ∙ ap (without (λ j. same j (row_text (get_or ws i d)))) h.gone
            ∙ without_both (named (take i ws)) (λ j. same j (row_text (get_or ws i d))) c
            ∙ without-same _ _ (λ k. named_push (take i ws) (get_or ws i d) k ∙ ap (λ (xs : List Row). named xs k) (sym (take_more ws i d lt))) c;
      }

  pub erased_stopped : (f f' : Fault) (c₂ : Contents) (v : Verdict) → RowRefused (get_or ws i d) v f × (c₂ ≡ c₁) → f' ≡ at_index i f → Stopped ws f' c c₂ v
  erased_stopped f f' c₂ v (q, e) is =
      record {
        before = take i ws;
        row = get_or ws i d;
        behind = drop (i + 1) ws;
        cause = f;
        parts = sym (take-append-drop i ws) ∙ ap (λ (xs : List Row). take i ws ++ xs) (drop_more ws i d lt);
        index = is ∙ ap (λ (n : ℕ). at_index n f) (sym (length-take-le i ws (omega arith)));
        keys = h.keys;
        erased = e ∙ h.gone;
        refused = q;
      }

pub erased_all : (ws : List Row) (i : ℕ) (c c' : Contents) → length ws ≤ i → Erased ws i c c' → AllByRecursion KeyRow ws × (c' ≡ without (named ws) c)
erased_all ws i c c' le h = rw (sym (take_all i ws le)) (h.keys, h.gone)
