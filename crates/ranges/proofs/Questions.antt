-- Laws of the questions that a call asks before it acts.
use Rattle.std.proofs.Common.{◌≡◌, ℕ, zero, suc, ◌+◌, ◌^◌, ◌<◌, ◌≤◌, Bool, true, false, ltb, List, [], ◌∷◌, length, get_or, drop, Some, None, Ok, Err, Option, Result, sym, refl, ap, ◌∙◌, arith}
use Rattle.std.proofs.lemmas.List.{at_drop_more, at_drop_all}
use Rattle.std.proofs.lemmas.Bool.{lt-ltb, le-ltb, ltb-false}
use Rattle.ranges.specs.Ranges.{in_u64, only_if}
use Rattle.ranges.specs.Refusals.{Refusal, refusal, unless, first_no, first_bad, room}

pub room_short : (have need : ℕ) → have < need → room have need ≡ Some (refusal 9)
room_short have need h = rw (lt-ltb have need h)

pub room_enough : (have need : ℕ) → need ≤ have → room have need ≡ None
room_enough have need h = rw (le-ltb have need h)

-- items asked in turn
module _ {X : Type 0} (good : X → Bool) (tell : ℕ → X → Refusal) where
  pub bad_none : (i : ℕ) → first_bad good tell i [] ≡ None
  unfolding first_bad
  bad_none i = refl

  pub bad_next : (i : ℕ) (x : X) (xs : List X) → good x ≡ true → first_bad good tell i (x ∷ xs) ≡ first_bad good tell (i + 1) xs
  unfolding first_bad
  bad_next i x xs g = rw g

  pub bad_here : (i : ℕ) (x : X) (xs : List X) → good x ≡ false → first_bad good tell i (x ∷ xs) ≡ Some (tell i x)
  unfolding first_bad
  bad_here i x xs g = rw g

  -- a loop over the items: one more passes, one fails, all have passed
  pub bad_more : (xs : List X) (i : ℕ) (d : X) → i < length xs → good (get_or xs i d) ≡ true → first_bad good tell i (drop i xs) ≡ first_bad good tell 0 xs → first_bad good tell (i + 1) (drop (i + 1) xs) ≡ first_bad good tell 0 xs
  bad_more xs i d h g e = sym (bad_next i (get_or xs i d) (drop (i + 1) xs) g) ∙ sym (at_drop_more (first_bad good tell i) xs i d h) ∙ e

  pub bad_stops : (xs : List X) (i : ℕ) (d : X) → i < length xs → good (get_or xs i d) ≡ false → first_bad good tell i (drop i xs) ≡ first_bad good tell 0 xs → first_bad good tell 0 xs ≡ Some (tell i (get_or xs i d))
  bad_stops xs i d h g e = sym e ∙ at_drop_more (first_bad good tell i) xs i d h ∙ bad_here i (get_or xs i d) (drop (i + 1) xs) g

  pub bad_all : (xs : List X) (i : ℕ) → length xs ≤ i → first_bad good tell i (drop i xs) ≡ first_bad good tell 0 xs → first_bad good tell 0 xs ≡ None
  bad_all xs i h e = sym e ∙ at_drop_all (first_bad good tell i) xs i h ∙ bad_none i

  -- where none fails, each passes
  pub good_head : (i : ℕ) (x : X) (xs : List X) → first_bad good tell i (x ∷ xs) ≡ None → good x ≡ true
  good_head i x xs e = go (good x) refl
    where
      go : (t : Bool) → good x ≡ t → good x ≡ true
      go true g = g
      go false g = absurd (let p = sym (bad_here i x xs g) ∙ e in let z : ◌≡◌ {A = ℕ} 0 1 = cc p in omega arith)

  pub good_tail : (i : ℕ) (x : X) (xs : List X) → first_bad good tell i (x ∷ xs) ≡ None → first_bad good tell (i + 1) xs ≡ None
  good_tail i x xs e = sym (bad_next i x xs (good_head i x xs e)) ∙ e

  pub good_at : (xs : List X) (k i : ℕ) (d : X) → first_bad good tell k xs ≡ None → i < length xs → good (get_or xs i d) ≡ true
  good_at [] k i d e h = absurd (omega arith)
  good_at (x ∷ xs) k zero d e h = good_head k x xs e
  good_at (x ∷ xs) k (suc i) d e h = good_at xs (k + 1) i d (good_tail k x xs e) (omega arith)

-- answers
pub unless_no : {X : Type 0} (q : Option Refusal) (e : Refusal) (x : X) → q ≡ Some e → ◌≡◌ {A = Result X Refusal} (Err e) (unless q x)
unless_no q e x h = rw h

pub unless_yes : {X : Type 0} (q : Option Refusal) (x : X) → q ≡ None → ◌≡◌ {A = Result X Refusal} (Ok x) (unless q x)
unless_yes q x h = rw h

-- back from an answer to its question
pub no_from_unless : {X : Type 0} (q : Option Refusal) (e : Refusal) (x : X) → ◌≡◌ {A = Result X Refusal} (Err e) (unless q x) → q ≡ Some e
no_from_unless None e x h = absurd (let z : ◌≡◌ {A = ℕ} 0 1 = cc in omega arith)
no_from_unless (Some f) e x h = cc

pub yes_from_unless : {X : Type 0} (q : Option Refusal) (x y : X) → ◌≡◌ {A = Result X Refusal} (Ok y) (unless q x) → (q ≡ None) × (y ≡ x)
yes_from_unless None x y h = (refl, cc)
yes_from_unless (Some f) x y h = absurd (let z : ◌≡◌ {A = ℕ} 0 1 = cc in omega arith)

-- numbers in and past u64
pub u64_past : (n : ℕ) → 2 ^ 64 ≤ n → in_u64 n ≡ None
u64_past n h = rw (le-ltb n (2 ^ 64) h)

pub u64_within : (n : ℕ) → n < 2 ^ 64 → in_u64 n ≡ Some n
u64_within n h = rw (lt-ltb n (2 ^ 64) h)

-- three questions that were all answered yes
pub none_of_three : (a b c : Option Refusal) → first_no (a ∷ b ∷ c ∷ []) ≡ None → (a ≡ None) × (b ≡ None) × (c ≡ None)
none_of_three None None None h = (refl, refl, refl)
none_of_three None None (Some e) h = absurd (let z : ◌≡◌ {A = ℕ} 0 1 = cc in omega arith)
none_of_three None (Some e) c h = absurd (let z : ◌≡◌ {A = ℕ} 0 1 = cc in omega arith)
none_of_three (Some e) b c h = absurd (let z : ◌≡◌ {A = ℕ} 0 1 = cc in omega arith)

pub enough_from_room : (have need : ℕ) → room have need ≡ None → need ≤ have
enough_from_room have need h = go (ltb have need) refl h
  where
    go : (t : Bool) → ltb have need ≡ t → only_if t (refusal 9) ≡ None → need ≤ have
    go true e h = absurd (let z : ◌≡◌ {A = ℕ} 0 1 = cc in omega arith)
    go false e h = ltb-false have need e

pub unless_gives : {X : Type 0} (q : Option Refusal) (x y : X) → q ≡ None → y ≡ x → ◌≡◌ {A = Result X Refusal} (Ok y) (unless q x)
unless_gives q x y h e = rw (h, e)

pub u64_is : (n m : ℕ) → n ≡ m → n < 2 ^ 64 → Some n ≡ in_u64 m
u64_is n m e h = ap (λ (k : ℕ). Some k) e ∙ sym (u64_within m (omega arith))
