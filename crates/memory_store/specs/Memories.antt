-- What the invariants of a MemoryStore say, and its writes by its verdict.
use Rattle.std.specs.Prelude.{◌≡◌, Bool, true, false, cond, Some, Ok, Err, vec_items, Result, refl}
use Rattle.std.proofs.Common.{sym, ◌∙◌, ap, arith}
use Rattle.std.proofs.lemmas.Bool.{cond-true}
use Rattle.keys.specs.Text.{Bytes}
use Rattle.storage.specs.Contents.{Contents, Sound, same, found, put, without, moved}
use Rattle.storage.specs.Faults.{own}
use Rattle.storage.specs.Writes.{Write, rename, after, Settled}
use Rattle.storage.specs.declared.fault.Fault.{Fault}
use Rattle.storage.specs.declared.fault.Cause.TheVariants.{Full}
use Rattle.storage.proofs.Order.{clash}
use Rattle.storage.proofs.Finds.{moved_some}
use Rattle.storage.proofs.Sizes.{move_most}
use Rattle.memory_store.specs.declared.table.Table.{Table}
use Rattle.memory_store.specs.Slots.{Packed}
use Rattle.memory_store.specs.Tables.{Replaced, tabled, room}
use Rattle.memory_store.specs.Memory.{sourceless, ruling}
use Rattle.memory_store.specs.Cuts.{lawful_cut, length_cut}
use Rattle.memory_store.specs.Rooms.{roomy, ordered, whole}

pub packed : (t : Table) → Packed (vec_items t.slots) (vec_items t.row)
packed t = record { ordered = t.ordered; fills = t.packed ∙ t.row.ok.0 }

pub sound : (t : Table) → Sound (tabled t)
sound t =
    record {
      ascends = ordered _ _ (packed t);
      lawful = lawful_cut (vec_items t.slots) (vec_items t.row);
      few = omega (arith, length_cut (vec_items t.slots) (vec_items t.row), t.few, t.slots.ok.0);
      small = omega (arith, whole _ _ (packed t), t.small, t.row.ok.0);
    }

-- what a store holds has room
pub table-room : (t : Table) → room (tabled t) ≡ true
table-room t =
    roomy (tabled t)
    (omega (arith, length_cut (vec_items t.slots) (vec_items t.row), t.few, t.slots.ok.0))
    (omega (arith, whole _ _ (packed t), t.small, t.row.ok.0))

module _ {A : Type 0} (c c' : Contents) (w : Write) (s : sourceless w c ≡ false) where
  -- a write that was made had the verdict none
  pub accepted : (x : A) → room c' ≡ true → c' ≡ after true w c → Settled true true w (Ok x) c c' (ruling c) (ruling c')
  accepted x h e =
      let r : room (after true w c) ≡ true = ap room (sym e) ∙ h in
      record { accepted = λ _. e; tidily = λ _. rw (s, r) refl }

  -- a write for which there is no room gets 8, and changes nothing
  pub refused : room (after true w c) ≡ false → c' ≡ c → Settled {A = A} true true w (Err (own Full)) c c' (ruling c) (ruling c')
  refused r e =
      record { accepted = λ h. clash false h refl; tidily = λ _. (rw (s, r) refl, (e, λ x. ap (λ (d : Contents). ruling d x) e)) }

-- a write that puts a value, by whether there is room for it
pub replaced :
    (t t' : Table) (w : Write) (k v : Bytes) (r : Result (Unit {0}) Fault)
    → sourceless w (tabled t) ≡ false
    → after true w (tabled t) ≡ put k v (tabled t)
    → Replaced r k v t t'
    → Settled true true w r (tabled t) (tabled t') (ruling (tabled t)) (ruling (tabled t'))
replaced t t' w k v r s e h = go (room (put k v (tabled t))) refl h.answer h.contents
  where
    go : (b : Bool)
        → room (put k v (tabled t)) ≡ b
        → r ≡ cond b (Ok tt) (Err (own Full))
        → tabled t' ≡ cond b (put k v (tabled t)) (tabled t)
        → Settled true true w r (tabled t) (tabled t') (ruling (tabled t)) (ruling (tabled t'))
    go true y is left = rw is (accepted (tabled t) (tabled t') w s tt (table-room t') (left ∙ sym e))
    go false n is left = rw is (refused (tabled t) (tabled t') w s (ap room e ∙ n) left)

-- a value taken out under one key and put in under another was renamed
pub renamed :
    (t t₁ t' : Table) (a b v w : Bytes) (r : Result (Unit {0}) Fault)
    → found a (tabled t) ≡ Some v
    → w ≡ v
    → tabled t₁ ≡ without (λ j. same j a) (tabled t)
    → Replaced r b w t₁ t'
    → Settled true true (rename a b) r (tabled t) (tabled t') (ruling (tabled t)) (ruling (tabled t'))
renamed t t₁ t' a b v w r there is out back =
    rw (back.answer ∙ cond-true _ _ _ fits)
    (accepted (tabled t) (tabled t') (rename a b) (rw there refl) tt (table-room t') left)
  where
    same-put : put b w (tabled t₁) ≡ put b v (without (λ j. same j a) (tabled t))
    same-put = ap (λ (x : Bytes). put b x (tabled t₁)) is ∙ ap (put b v) out

    fits : room (put b w (tabled t₁)) ≡ true
    fits =
        let m = move_most a b (tabled t) v (ordered _ _ (packed t)) there in
        ap room same-put
        ∙ roomy _
        (omega (arith, m.0, length_cut (vec_items t.slots) (vec_items t.row), t.few, t.slots.ok.0))
        (omega (arith, m.1, whole _ _ (packed t), t.small, t.row.ok.0))

    left : tabled t' ≡ moved a b (tabled t)
    left = back.contents ∙ cond-true _ _ _ fits ∙ same-put ∙ sym (moved_some a b v (tabled t) there)
