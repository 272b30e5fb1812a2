-- Laws of one item: its bytes, its questions, and what it leaves in the output.
use Rattle.std.proofs.Common.{◌≡◌, ℕ, ◌+◌, ◌-◌, ◌≤◌, Bool, true, false, cond, not, ◌&&◌, ◌||◌, ltb, leb, ◌⊎◌, [], length, take, drop, Some, None, Ok, Err, Option, Result, unwrap_or, sym, refl, ap, ◌∙◌, inl, inr, arith}
use borrow.Rule.Slice.PartMut.{put_mid, put_same}
use lib.Seq.{paste}
use Rattle.std.proofs.lemmas.Bool.{leb-true, leb-false, ltb-false, le-ltb}
use Rattle.std.proofs.lemmas.List.{take_rest, take_all, drop_all, length-take-le, length-drop}
use Rattle.keys.specs.Text.{Bytes}
use Rattle.ranges.specs.Ranges.{only_if, start_of, inside}
use Rattle.ranges.specs.declared.byte_range.ByteRange.{ByteRange}
use Rattle.ranges.specs.declared.byte_range.ByteRange.TheVariants.{FromStart, Suffix}
use Rattle.ranges.proofs.Writes.{put_part}
use Rattle.std.specs.Result.{MatchResult}
use Rattle.storage.specs.Contents.{bytes_of}
use Rattle.readers.specs.declared.reader.Reader.{Ghosts}
use Rattle.readers.specs.declared.reader_fault.ReaderFault.{ReaderFault}
use Rattle.readers.specs.declared.reader_fault.ReadCause.TheVariants as cause
use Rattle.readers.specs.ReaderFaults.{refused, from_store, first_of, unless_fault}
use Rattle.readers.specs.Readers.{read_no, read_part, part_fault, FilledBy}
use Rattle.readers.specs.Moves.{MovedTo}
use Rattle.readers.proofs.Seeking.{moved_at, moved_on}
use Rattle.readers.specs.ItemSeeks.{start_given}
use Rattle.readers.specs.ReadSeek.{read_length, start_no, place_no, item_no}

-- a read that is not refused: of no bytes, or within the value
pub read_room : (b : Bytes) (p n : ℕ) → read_no (Some b) p n ≡ None → (n ≡ 0) ⊎ (p + n ≤ length b)
read_room b p n h = go (ltb 0 n) (ltb (length b) (p + n)) refl refl h
  where
    go : (t u : Bool) → ltb 0 n ≡ t → ltb (length b) (p + n) ≡ u → ◌≡◌ {A = Option ReaderFault} (only_if (t && u) (from_store (part_fault (length b) p n))) None → (n ≡ 0) ⊎ (p + n ≤ length b)
    go false u e f h = inl (omega (arith, ltb-false 0 n e))
    go true false e f h = inr (ltb-false (length b) (p + n) f)
    go true true e f h = let z : ◌≡◌ {A = ℕ} 0 1 = cc in absurd (omega arith)

-- what an item that is read has
pub record Has (b : Bytes) (r : ByteRange) (x : ℕ) : Type 0 where
  pub bytes : take (read_length r (length b)) (drop x b) ≡ inside b r
  pub count : length (inside b r) ≡ read_length r (length b)

rest_has : (b : Bytes) (o : ℕ) → (cond (leb o (length b)) (length b - o) (length b) ≡ 0) ⊎ (o + cond (leb o (length b)) (length b - o) (length b) ≤ length b) → Has b (FromStart o None) o
rest_has b o k = go (leb o (length b)) refl k
  where
    as_is : (n : ℕ) → n ≡ cond (leb o (length b)) (length b - o) (length b) → take n (drop o b) ≡ drop o b → length (drop o b) ≡ n → Has b (FromStart o None) o
    as_is n e p q = record { bytes = ap (λ (m : ℕ). take m (drop o b)) (sym e) ∙ p; count = q ∙ e }

    go : (t : Bool) → leb o (length b) ≡ t → (cond t (length b - o) (length b) ≡ 0) ⊎ (o + cond t (length b - o) (length b) ≤ length b) → Has b (FromStart o None) o
    go true e k = as_is (length b - o) (rw e refl) (take_rest b o) (length-drop o b)
    go false e k =
        let lt = leb-false o (length b) e in
        let z : length b ≡ 0 = elim k [ inl h ↦ h | inr h ↦ absurd (omega arith) ] in
        let d : drop o b ≡ [] = drop_all o b (omega arith) in
        as_is (length b) (rw e refl) (rw d (take_all (length b) [] (omega arith))) (ap length d ∙ sym z)

part_has : (b : Bytes) (o l : ℕ) → (l ≡ 0) ⊎ (o + l ≤ length b) → Has b (FromStart o (Some l)) o
part_has b o l (inl z) = record { bytes = refl; count = rw z refl }
part_has b o l (inr h) = record { bytes = refl; count = length-take-le l (drop o b) (omega (arith, length-drop o b)) }

end_has : (b : Bytes) (l x : ℕ) → l ≤ length b → x ≡ length b - l → Has b (Suffix l) x
end_has b l x h e =
    let n : length (drop (length b - l) b) ≡ l = length-drop (length b - l) b ∙ omega arith in
    record { bytes = ap (λ (y : ℕ). take l (drop y b)) e ∙ take_all l (drop (length b - l) b) (omega arith); count = n }

pub item_has : (b : Bytes) (r : ByteRange) (x : ℕ) → start_of r (length b) ≡ Some x → read_no (Some b) x (read_length r (length b)) ≡ None → Has b r x
item_has b (FromStart o None) x s k = let e : x ≡ o = cc in rw e (rest_has b o (rw e at (read_room b x (read_length (FromStart o None) (length b)) k)))
item_has b (FromStart o (Some l)) x s k = let e : x ≡ o = cc in rw e (part_has b o l (rw e at (read_room b x l k)))
item_has b (Suffix l) x s k = go (leb l (length b)) refl s
  where
    go : (t : Bool) → leb l (length b) ≡ t → only_if t (length b - l) ≡ Some x → Has b (Suffix l) x
    go true e s = end_has b l x (leb-true l (length b) e) (cc)
    go false e s = let z : ◌≡◌ {A = ℕ} 0 1 = cc in absurd (omega arith)

-- the start that a seek gave
pub start_from : (o : Option ℕ) (x : ℕ) → Ok x ≡ start_given o → o ≡ Some x
start_from None x h = let z : ◌≡◌ {A = ℕ} 0 1 = cc in absurd (omega arith)
start_from (Some s) x h = cc

-- the questions of an item that was sought and has room
pub item_no_lem : (b : Bytes) (space at : ℕ) (noted : Bool) (r : ByteRange) (x : ℕ) → start_of r (length b) ≡ Some x → noted ≡ true → at + read_length r (length b) ≤ space → item_no b space at noted r ≡ read_no (Some b) x (read_length r (length b))
item_no_lem b space at noted r x s t h =
    ap (λ (o : Option ℕ). start_no o (λ y. first_of (place_no space at noted (read_length r (length b))) (read_no (Some b) y (read_length r (length b))))) s
    ∙ ap (λ (q : Option ReaderFault). first_of q (read_no (Some b) x (read_length r (length b)))) room
  where
    room : place_no space at noted (read_length r (length b)) ≡ None
    room = rw (t, le-ltb space (at + read_length r (length b)) h)

-- answers
pub given_none : {X : Type 0} (q : Option ReaderFault) (x y : X) → Ok y ≡ unless_fault q x → q ≡ None
given_none None x y h = refl
given_none (Some f) x y h = let z : ◌≡◌ {A = ℕ} 0 1 = cc in absurd (omega arith)

pub given_is : {X : Type 0} (q : Option ReaderFault) (x y : X) → Ok y ≡ unless_fault q x → y ≡ x
given_is None x y h = cc
given_is (Some f) x y h = let z : ◌≡◌ {A = ℕ} 0 1 = cc in absurd (omega arith)

pub given_some : {X : Type 0} (q : Option ReaderFault) (x : X) (f : ReaderFault) → Err f ≡ unless_fault q x → q ≡ Some f
given_some None x f h = let z : ◌≡◌ {A = ℕ} 0 1 = cc in absurd (omega arith)
given_some (Some e) x f h = cc

-- an answer of the item at an index
pub ok_from_mapped : (len : ℕ) (a : Result ℕ ReaderFault) → MatchResult a (λ x. ◌≡◌ {A = Result ℕ ReaderFault} (Ok len) (Ok x)) (λ _. ⊥) → a ≡ Ok len
ok_from_mapped len (Ok x) h = let e : x ≡ len = cc in cc
ok_from_mapped len (Err f) h = absurd h

pub err_from_mapped : {Q : ReaderFault → Type 0} (g : ReaderFault) (a : Result ℕ ReaderFault) → MatchResult a (λ x. ◌≡◌ {A = Result ℕ ReaderFault} (Err g) (Ok x)) Q → (f : ReaderFault) × (a ≡ Err f) × Q f
err_from_mapped g (Ok x) h = let z : ◌≡◌ {A = ℕ} 0 1 = cc in absurd (omega arith)
err_from_mapped g (Err f) h = (f, refl, h)

-- an item that is not refused has its place
firsts_none : (p q : Option ReaderFault) → first_of p q ≡ None → (p ≡ None) × (q ≡ None)
firsts_none None q h = (refl, h)
firsts_none (Some f) q h = let z : ◌≡◌ {A = ℕ} 0 1 = cc in absurd (omega arith)

placed : (space at : ℕ) (noted : Bool) (n : ℕ) → place_no space at noted n ≡ None → (noted ≡ true) × (at + n ≤ space)
placed space at noted n h = go noted (ltb space (at + n)) refl h
  where
    go : (t u : Bool) → ltb space (at + n) ≡ u → ◌≡◌ {A = Option ReaderFault} (only_if (not t || u) (refused cause.Short)) None → (t ≡ true) × (at + n ≤ space)
    go true true e h = let z : ◌≡◌ {A = ℕ} 0 1 = cc in absurd (omega arith)
    go true false e h = (refl, ltb-false space (at + n) e)
    go false u e h = let z : ◌≡◌ {A = ℕ} 0 1 = cc in absurd (omega arith)

pub item_placed : (b : Bytes) (space at : ℕ) (noted : Bool) (r : ByteRange) → item_no b space at noted r ≡ None → (noted ≡ true) × (at + length (inside b r) ≤ space)
item_placed b space at noted r h = go (start_of r (length b)) refl h
  where
    go : (o : Option ℕ) → start_of r (length b) ≡ o → start_no o (λ s. first_of (place_no space at noted (read_length r (length b))) (read_no (Some b) s (read_length r (length b)))) ≡ None → (noted ≡ true) × (at + length (inside b r) ≤ space)
    go None e h = let z : ◌≡◌ {A = ℕ} 0 1 = cc in absurd (omega arith)
    go (Some x) e h =
        let both = firsts_none _ _ h in
        let has = item_has b r x e both.1 in
        let p = placed space at noted (read_length r (length b)) both.0 in
        (p.0, omega (arith, p.1, has.count))

-- an item, from the answers to its seek and its read
module _
    {R : Type 0} (m : Ghosts R) (r : ByteRange) (at len size : ℕ) (noted : Bool) (out : Bytes) (s t : R) (x k : ℕ)
    (value : m.value s ≡ Some (bytes_of (m.value s)))
    (sized : size ≡ length (bytes_of (m.value s)))
    (sought : Ok x ≡ start_given (start_of r (length (bytes_of (m.value s)))))
    (here : MovedTo m (unwrap_or (start_of r (length (bytes_of (m.value s)))) (m.position s)) s t)
    (counted : len ≡ read_length r size)
    (room : at + len ≤ length out)
    (yes : noted ≡ true)
    (cut : k ≡ len)
  where
    abbrev b : Bytes
    b = bytes_of (m.value s)

    abbrev n : ℕ
    n = read_length r (length b)

    start : start_of r (length b) ≡ Some x
    start = start_from (start_of r (length b)) x sought

    is_n : len ≡ n
    is_n = counted ∙ ap (read_length r) sized

    long : length (take k (drop at out)) ≡ n
    long = length-take-le k (drop at out) (omega (arith, length-drop at out)) ∙ cut ∙ is_n

    place : m.position t ≡ x
    place = here.place ∙ ap (λ (o : Option ℕ). unwrap_or o (m.position s)) start

    asked : read_no (m.value t) (m.position t) (length (take k (drop at out))) ≡ read_no (Some b) x n
    asked =
        ap (λ (v : Option Bytes). read_no v (m.position t) (length (take k (drop at out)))) (here.value ∙ value)
        ∙ ap (λ (p : ℕ). read_no (Some b) p (length (take k (drop at out)))) place
        ∙ ap (read_no (Some b) x) long

    questions : item_no b (length out) at noted r ≡ read_no (Some b) x n
    questions = item_no_lem b (length out) at noted r x start yes (omega (arith, is_n))

    pub item_refused : {X : Type 0} (y : X) (f : ReaderFault) (part : Bytes) → FilledBy (m.value t) (m.position t) (Err f) (take k (drop at out)) part → (Err f ≡ unless_fault (item_no b (length out) at noted r) y) × (put_mid at k out part ≡ out)
    item_refused y f part h =
        let q : read_no (Some b) x n ≡ Some f = sym asked ∙ given_some _ tt f h.answer in
        (ap (λ (o : Option ReaderFault). unless_fault o y) (sym (questions ∙ q)), ap (put_mid at k out) h.output ∙ put_same at k out)

    pub item_given : (part : Bytes) → FilledBy (m.value t) (m.position t) (Ok tt) (take k (drop at out)) part → (Ok len ≡ unless_fault (item_no b (length out) at noted r) (length (inside b r))) × (put_mid at k out part ≡ paste out at (inside b r) (length (inside b r)))
    item_given part h =
        let q : read_no (Some b) x n ≡ None = sym asked ∙ given_none _ tt tt h.answer in
        let has = item_has b r x start q in
        let filled : part ≡ inside b r =
        h.output
        ∙ ap (λ (v : Option Bytes). read_part v (m.position t) (length (take k (drop at out)))) (here.value ∙ value)
        ∙ ap (λ (p : ℕ). read_part (Some b) p (length (take k (drop at out)))) place
        ∙ ap (read_part (Some b) x) long
        ∙ has.bytes
        in (
          ap Ok (is_n ∙ sym has.count) ∙ ap (λ (o : Option ReaderFault). unless_fault o (length (inside b r))) (sym (questions ∙ q)),
          put_part out part (inside b r) at k filled (cut ∙ is_n ∙ sym has.count),
        )

    -- where it leaves the reader
    sized_start : unwrap_or (start_of r (length b)) (m.position s) ≡ unwrap_or (start_of r size) (m.position s)
    sized_start = ap (λ (i : ℕ). unwrap_or (start_of r i) (m.position s)) (sym sized)

    pub left_refused : (u : R) → MovedTo m (m.position t) t u → MovedTo m (unwrap_or (start_of r size) (m.position s)) s u
    left_refused u h = moved_on m _ _ s t u here (moved_at m _ _ t u (here.place ∙ sized_start) h)

    pub left_given : (u : R) → MovedTo m (m.position t + length (take k (drop at out))) t u → MovedTo m (unwrap_or (start_of r size) 0 + len) s u
    left_given u h =
        let e : unwrap_or (start_of r size) 0 ≡ x = ap (λ (i : ℕ). unwrap_or (start_of r i) 0) sized ∙ ap (λ (o : Option ℕ). unwrap_or o 0) start in
        moved_on m _ _ s t u here (moved_at m _ _ t u (omega (arith, e, place, long, is_n)) h)
