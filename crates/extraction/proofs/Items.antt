-- Laws of picked bytes put end to end, and of their notes.
use Rattle.std.proofs.Common.{◌≡◌, ℕ, suc, ◌+◌, ◌<◌, ◌≤◌, List, [], ◌∷◌, ◌++◌, length, get_or, take, drop, set, sym, refl, ap, ◌∙◌, add-zero, add_assoc, zero-add, arith}
use lib.Seq.{paste}
use Rattle.std.specs.List.{flat_map}
use Rattle.std.proofs.lemmas.List.{append_assoc, take-append-drop, take_more, flat_map_more, length-append, length-take-le, take_all, drop_more, set_at}
use Rattle.std.proofs.lemmas.List.Edits.{paste-paste}
use Rattle.ranges.specs.declared.byte_range.ByteRange.{ByteRange}
use Rattle.extraction.specs.Notes.{Note}
use Rattle.ranges.specs.Ranges.{Bytes, picked}
use Rattle.ranges.specs.Buffers.{fronted}
use Rattle.extraction.specs.Extracts.{items, note_at, notes_from}

joined_append : {X A : Type 0} (f : X → List A) (xs ys : List X) → flat_map f (xs ++ ys) ≡ flat_map f xs ++ flat_map f ys
joined_append f [] ys = refl
joined_append f (x ∷ xs) ys = ap (λ zs. f x ++ zs) (joined_append f xs ys) ∙ sym (append_assoc (f x) (flat_map f xs) (flat_map f ys))

module _ (b : Bytes) (rs : List ByteRange) where
  pub items_more : (i : ℕ) (d : ByteRange) → i < length rs → items b (take (i + 1) rs) ≡ items b (take i rs) ++ picked b (get_or rs i d)
  items_more i d h = ap (flat_map (picked b)) (take_more rs i d h) ∙ sym (flat_map_more (picked b) [] (take i rs) (get_or rs i d))

  pub length-items_more : (i : ℕ) (d : ByteRange) → i < length rs → length (items b (take (i + 1) rs)) ≡ length (items b (take i rs)) + length (picked b (get_or rs i d))
  length-items_more i d h = ap length (items_more i d h) ∙ length-append (items b (take i rs)) (picked b (get_or rs i d))

  pub length-items-take : (i : ℕ) → length (items b (take i rs)) ≤ length (items b rs)
  length-items-take i =
      let e = ap (λ (xs : List ByteRange). length (items b xs)) (take-append-drop i rs) in
      let f = ap length (joined_append (picked b) (take i rs) (drop i rs)) in
      omega (arith, length-append (items b (take i rs)) (items b (drop i rs)))

pub notes_push : (k : ℕ) (b : Bytes) (rs : List ByteRange) (r : ByteRange) → notes_from k b (rs ++ r ∷ []) ≡ notes_from k b rs ++ note_at (k + length (items b rs)) b r ∷ []
unfolding notes_from
notes_push k b [] r = ap (λ n. note_at n b r ∷ []) (sym (add-zero k))
notes_push k b (x ∷ rs) r =
    ap (λ ns. note_at k b x ∷ ns)
    (notes_push (k + length (picked b x)) b rs r
    ∙ ap (λ n. notes_from (k + length (picked b x)) b rs ++ note_at n b r ∷ [])
    (add_assoc k (length (picked b x)) (length (items b rs)) ∙ ap (λ n. k + n) (sym (length-append (picked b x) (items b rs)))))

pub notes_more : (b : Bytes) (rs : List ByteRange) (i : ℕ) (d : ByteRange) → i < length rs → notes_from 0 b (take (i + 1) rs) ≡ notes_from 0 b (take i rs) ++ note_at (length (items b (take i rs))) b (get_or rs i d) ∷ []
notes_more b rs i d h =
    ap (notes_from 0 b) (take_more rs i d h)
    ∙ notes_push 0 b (take i rs) (get_or rs i d)
    ∙ ap (λ n. notes_from 0 b (take i rs) ++ note_at n b (get_or rs i d) ∷ []) (zero-add (length (items b (take i rs))))

pub length_notes : (k : ℕ) (b : Bytes) (rs : List ByteRange) → length (notes_from k b rs) ≡ length rs
unfolding notes_from
length_notes k b [] = refl
length_notes k b (r ∷ rs) = ap (λ n. suc n) (length_notes (k + length (picked b r)) b rs)

pub items_all : (b : Bytes) (rs : List ByteRange) (i : ℕ) → length rs ≤ i → items b (take i rs) ≡ items b rs
items_all b rs i h = ap (items b) (take_all i rs h)

-- a loop that copies: `at` is where the bytes so far end
pub copied_more : (b : Bytes) (rs : List ByteRange) (i : ℕ) (d : ByteRange) (out now next : Bytes) (at end : ℕ) → i < length rs
    → at ≡ length (items b (take i rs))
    → now ≡ paste out 0 (items b (take i rs)) at
    → end ≡ at + length (picked b (get_or rs i d))
    → next ≡ paste now at (picked b (get_or rs i d)) (length (picked b (get_or rs i d)))
    → (end ≡ length (items b (take (i + 1) rs))) × (next ≡ paste out 0 (items b (take (i + 1) rs)) end)
copied_more b rs i d out now next at end h e-at e-now e-end e-next =
    let p = picked b (get_or rs i d) in
    let s = items b (take i rs) in (
      e-end ∙ ap (λ (n : ℕ). n + length p) e-at ∙ sym (length-items_more b rs i d h),
      e-next
          ∙ ap (λ (xs : Bytes). paste xs at p (length p)) e-now
          ∙ ap (λ (n : ℕ). paste (paste out 0 s at) n p (length p)) (sym (zero-add at))
          ∙ paste-paste out 0 s p at (length p) e-at refl (omega arith)
          ∙ ap (λ (xs : Bytes). paste out 0 xs (at + length p)) (sym (items_more b rs i d h))
          ∙ ap (λ (n : ℕ). paste out 0 (items b (take (i + 1) rs)) n) (sym e-end),
    )

-- a loop that writes notes
pub noted_more : (b : Bytes) (rs : List ByteRange) (i : ℕ) (d : ByteRange) (old now : List Note) → i < length rs → i < length old
    → now ≡ notes_from 0 b (take i rs) ++ drop i old
    → set now i (note_at (length (items b (take i rs))) b (get_or rs i d)) ≡ notes_from 0 b (take (i + 1) rs) ++ drop (i + 1) old
noted_more b rs i d old now h k e =
    let n = note_at (length (items b (take i rs))) b (get_or rs i d) in
    let ns = notes_from 0 b (take i rs) in
    let l : length ns ≡ i = length_notes 0 b (take i rs) ∙ length-take-le i rs (omega arith) in
    let x = get_or old i n in
    ap (λ (xs : List Note). set xs i n) (e ∙ ap (λ (xs : List Note). ns ++ xs) (drop_more old i n k))
    ∙ set_at ns x (drop (i + 1) old) n i l
    ∙ sym (append_assoc ns (n ∷ []) (drop (i + 1) old))
    ∙ ap (λ (xs : List Note). xs ++ drop (i + 1) old) (sym (notes_more b rs i d h))

pub noted_all : (b : Bytes) (rs : List ByteRange) (i : ℕ) (old : List Note) → length rs ≤ i → i ≤ length rs → notes_from 0 b (take i rs) ++ drop i old ≡ fronted (notes_from 0 b rs) old
noted_all b rs i old h k =
    let e : i ≡ length (notes_from 0 b rs) = omega (arith, length_notes 0 b rs) in
    ap (λ (xs : List ByteRange). notes_from 0 b xs ++ drop i old) (take_all i rs h) ∙ ap (λ (n : ℕ). notes_from 0 b rs ++ drop n old) e
