-- What one comparison in ascending keys says of the others, and what a search in a table found.
use Rattle.std.proofs.Common.{◌≡◌, ℕ, ◌+◌, ◌<◌, ◌≤◌, vec_items, true, Some, None, subst, List, [], ◌∷◌, ◌++◌, length, get_or, take, drop, Less, Equal, Greater, Ok, Err, Result, sym, refl, ap, ◌∙◌}
use Rattle.std.proofs.lemmas.List.{get_or_default, take-append-drop, drop_all, take_more, drop_more}
use Rattle.std.specs.Result.{result_ok}
use Rattle.std.specs.Ordering.{is_lt, ordering_reverse}
use Rattle.keys.specs.Text.{Bytes}
use Rattle.keys.specs.StoreKeys.{text}
use Rattle.keys.specs.ByteOrder.{compare_bytes}
use Rattle.keys.specs.ByteOrderLemmas.{bytes_lawful}
use Rattle.storage.specs.Contents.{earlier, found, ascending, all_before, all_after, Gap}
use Rattle.storage.proofs.Ascends.{ascending_split, before_trans, before_append, before_cons, after_trans, after_cons}
use Rattle.memory_store.specs.declared.slot.Slot.{Slot}
use Rattle.memory_store.specs.Slots.{slot_keys, lens, Placed}
use Rattle.memory_store.specs.Cuts.{slot_keys-append}
use Rattle.memory_store.specs.declared.table.Table.{Table}
use Rattle.memory_store.specs.Memories.{packed}
use Rattle.memory_store.specs.Tables.{tabled}
use Rattle.memory_store.specs.TablesLemmas.{absent_there, ends, found_there}

pub none_behind : (ss : List Slot) (n : ℕ) (k : Bytes) → length ss ≤ n → all_after k (slot_keys (drop n ss)) ≡ true
unfolding all_after slot_keys
none_behind ss n k h = ap (λ (x : List Slot). all_after k (slot_keys x)) (drop_all n ss h)

module _ (ss : List Slot) (m : ℕ) (s d : Slot) (k : Bytes) (within : m < length ss) (here : s ≡ get_or ss m d) (ordered : ascending (slot_keys ss) ≡ true) where
  back : drop m ss ≡ s ∷ drop (m + 1) ss
  back = drop_more ss m d within ∙ ap (λ (x : Slot). x ∷ drop (m + 1) ss) (sym here)

  keyed : slot_keys ss ≡ slot_keys (take m ss) ++ text s.key ∷ slot_keys (drop (m + 1) ss)
  unfolding slot_keys
  keyed =
      ap slot_keys (sym (take-append-drop m ss) ∙ ap (λ (x : List Slot). take m ss ++ x) back)
      ∙ slot_keys-append (take m ss) (s ∷ drop (m + 1) ss)

  gap : Gap (text s.key) (slot_keys (take m ss)) (slot_keys (drop (m + 1) ss))
  gap = ascending_split (slot_keys (take m ss)) (text s.key) (slot_keys (drop (m + 1) ss)) (ap ascending (sym keyed) ∙ ordered)

  pub all_before_lem : Less ≡ compare_bytes (text s.key) k → all_before (slot_keys (take (m + 1) ss)) k ≡ true
  unfolding earlier slot_keys all_before
  all_before_lem h =
      let e : earlier (text s.key) k ≡ true = ap is_lt (sym h) in
      ap (λ (x : List Slot). all_before (slot_keys x) k) (take_more ss m d within ∙ ap (λ (x : Slot). take m ss ++ (x ∷ [])) (sym here))
      ∙ ap (λ x. all_before x k) (slot_keys-append (take m ss) (s ∷ []))
      ∙ before_append (slot_keys (take m ss)) (text s.key ∷ []) k (before_trans _ _ k e gap.below) (before_cons (text s.key) k [] e refl)

  pub all_after_lem : Greater ≡ compare_bytes (text s.key) k → all_after k (slot_keys (drop m ss)) ≡ true
  unfolding earlier slot_keys
  all_after_lem h =
      let e : earlier k (text s.key) ≡ true = ap is_lt (bytes_lawful.total k (text s.key) ∙ ap ordering_reverse (sym h)) in
      ap (λ (x : List Slot). all_after k (slot_keys x)) back
      ∙ after_cons k (text s.key) (slot_keys (drop (m + 1) ss)) e (after_trans k (text s.key) _ e gap.above)

  pub found_here : Equal ≡ compare_bytes (text s.key) k → (t : Slot) → t ≡ get_or ss m t → text t.key ≡ k
  found_here h t e = ap (λ (x : Slot). text x.key) (e ∙ get_or_default ss m t d within ∙ sym here) ∙ bytes_lawful.equal (text s.key) k (sym h)

-- what was found of a key in a table, whose slots were searched behind a reference
module _ (t : Table) (k : Bytes) (ss : List Slot) (r : Result ℕ ℕ) (same-slots : ss ≡ vec_items t.slots) (p : Placed k ss r) where
  there : Placed k (vec_items t.slots) r
  there = subst (λ (xs : List Slot). Placed k xs r) same-slots p

  pub none_placed : result_ok r ≡ None → found k (tabled t) ≡ None
  none_placed e = go r there e
    where
      go : (q : Result ℕ ℕ) → Placed k (vec_items t.slots) q → result_ok q ≡ None → found k (tabled t) ≡ None
      go (Ok j) h e = absurd cc
      go (Err j) h e = absent_there _ _ j _ refl (packed t) k h.1

  module _ (i at : ℕ) (s : Slot) (is : result_ok r ≡ Some i) (start : at ≡ lens (take i (vec_items t.slots))) (here : s ≡ get_or (vec_items t.slots) i s) where
    index_placed : Placed k (vec_items t.slots) (Ok i)
    index_placed = go r there is
      where
        go : (q : Result ℕ ℕ) → Placed k (vec_items t.slots) q → result_ok q ≡ Some i → Placed k (vec_items t.slots) (Ok i)
        go (Ok j) h e = let eq : j ≡ i = cc in subst (λ n. Placed k (vec_items t.slots) (Ok n)) eq h
        go (Err j) h e = absurd cc

    -- its value ends inside the row, and is the one under the key
    pub value_ends : at + s.len ≤ length (vec_items t.row)
    value_ends = ends _ _ i _ start (packed t) s _ index_placed.0 here

    pub value_placed : Some (take s.len (drop at (vec_items t.row))) ≡ found k (tabled t)
    value_placed = sym (found_there _ _ i _ start (packed t) s _ index_placed.0 here) ∙ ap (λ (x : Bytes). found x (tabled t)) (index_placed.1 s here)
