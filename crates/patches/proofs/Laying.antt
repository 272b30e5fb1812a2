-- Laws of patches: what laying one, or all, does to a buffer.
use Rattle.std.proofs.Common.{◌≡◌, ℕ, zero, suc, ◌+◌, ◌-◌, ◌<◌, ◌≤◌, max, leb, List, [], ◌∷◌, ◌++◌, length, get_or, take, drop, replicate, Some, None, Option, sym, refl, ap, ◌∙◌, inl, inr, arith}
use lib.Seq.{paste, take-append-add}
use Rattle.std.proofs.lemmas.List.Edits.{paste_all}
use Rattle.std.proofs.lemmas.List.{append_assoc, append-nil, length-append, length-replicate, length-take-le, length-drop, take-append-drop, take-append-le, take-take, take_at, take-replicate, take_all, drop_all, drop-append-le}
use Rattle.std.proofs.lemmas.Slice.{drop-append-drop}
use Rattle.std.proofs.lemmas.List.Sums.{fold_more}
use Rattle.std.proofs.lemmas.Bool.{leb-true, cases_lt}
use Rattle.patches.specs.declared.Patch.{Patch}
use Rattle.ranges.specs.Ranges.{Bytes}
use Rattle.ranges.specs.Refusals.{Refusal, refusal_at, first_no, few, room}
use Rattle.ranges.specs.Buffers.{fronted}
use Rattle.patches.specs.Patches.{padded, overlaid, laid, patch_bytes, laid_all, patched_length, places_inside, lay_no, in_place_no}
use Rattle.ranges.proofs.Questions.{good_head, good_tail, good_at, none_of_three, enough_from_room}

-- lengths
pub length-padded : (n : ℕ) (b : Bytes) → length (padded n b) ≡ max (length b) n
unfolding padded
length-padded n b = omega (arith, length-append b (replicate (n - length b) 0), length-replicate {A = ℕ} (n - length b) 0)

pub length-overlaid : (o : ℕ) (p b : Bytes) → o + length p ≤ length b → length (overlaid o p b) ≡ length b
unfolding overlaid
length-overlaid o p b h =
    omega (arith, length-append (take o b) (p ++ drop (o + length p) b), length-append p (drop (o + length p) b), length-take-le o b (omega arith), length-drop (o + length p) b)

pub length-laid : (o : ℕ) (p b : Bytes) → length (laid o p b) ≡ max (length b) (o + length p)
unfolding laid
length-laid o p b =
    let e = length-padded (o + length p) b in
    length-overlaid o p (padded (o + length p) b) (omega arith) ∙ e

-- one patch in a buffer w whose first n bytes are the old ones: w1 is the buffer with zeros between them and the patch
module _ (w w1 p : Bytes) (n at : ℕ) (in-n : n ≤ length w) (in_p : at + length p ≤ length w) where
  length_old : length (take n w) ≡ n
  length_old = length-take-le n w in-n

  -- the front, up to the patch
  front_gap : n < at → w1 ≡ paste w n (replicate (at - n) 0) (at - n) → take at w1 ≡ take at (padded (at + length p) (take n w))
  unfolding padded
  front_gap lt e =
      let z = replicate {A = ℕ} (at - n) 0 in
      let k : n + (at - n) ≡ at = omega arith in
      let l : length (take n w ++ z) ≡ at = length-append (take n w) z ∙ omega (arith, length_old, length-replicate {A = ℕ} (at - n) 0) in
      let l1 : length (take n w) + (at - n) ≡ at = omega (arith, length_old) in
      ap (take at) (e ∙ paste_all w n z (at - n) (sym (length-replicate {A = ℕ} (at - n) 0)) ∙ sym (append_assoc (take n w) z (drop (n + (at - n)) w)))
      ∙ take_at (take n w ++ z) (drop (n + (at - n)) w) at l
      ∙ ap (λ xs. take n w ++ xs) (sym (take-replicate {X = ℕ} (at - n) (at + length p - length (take n w)) 0 (omega (arith, length_old))))
      ∙ sym (take-append-add (take n w) (replicate (at + length p - length (take n w)) 0) (at - n))
      ∙ ap (λ (m : ℕ). take m (take n w ++ replicate (at + length p - length (take n w)) 0)) l1

  front_none : at ≤ n → w1 ≡ w → take at w1 ≡ take at (padded (at + length p) (take n w))
  unfolding padded
  front_none le e =
      ap (take at) e
      ∙ sym (take-take at n w le)
      ∙ sym (take-append-le at (take n w) (replicate (at + length p - length (take n w)) 0) (omega (arith, length_old)))

  -- the rest, past the patch
  rest_short : n ≤ at + length p → drop (at + length p) (padded (at + length p) (take n w)) ++ drop (length (laid at p (take n w))) w ≡ drop (at + length p) w
  rest_short le =
      let m = length-padded (at + length p) (take n w) in
      let l : length (laid at p (take n w)) ≡ at + length p = omega (arith, length-laid at p (take n w), length_old) in
      ap (λ (xs : Bytes). xs ++ drop (length (laid at p (take n w))) w) (drop_all (at + length p) (padded (at + length p) (take n w)) (omega (arith, m, length_old)))
      ∙ ap (λ (k : ℕ). drop k w) l

  rest_long : at + length p < n → drop (at + length p) (padded (at + length p) (take n w)) ++ drop (length (laid at p (take n w))) w ≡ drop (at + length p) w
  unfolding padded
  rest_long lt =
      let l : length (laid at p (take n w)) ≡ n = omega (arith, length-laid at p (take n w), length_old) in
      let k : at + length p - length (take n w) ≡ 0 = omega (arith, length_old) in
      ap (λ (m : ℕ). drop (at + length p) (take n w ++ replicate m 0) ++ drop (length (laid at p (take n w))) w) k
      ∙ ap (λ (xs : Bytes). drop (at + length p) xs ++ drop (length (laid at p (take n w))) w) (append-nil (take n w))
      ∙ ap (λ (m : ℕ). drop (at + length p) (take n w) ++ drop m w) l
      ∙ sym (drop-append-le (at + length p) (take n w) (drop n w) (omega (arith, length_old)))
      ∙ ap (drop (at + length p)) (take-append-drop n w)

  rest_gap : n < at → w1 ≡ paste w n (replicate (at - n) 0) (at - n) → drop (at + length p) w1 ≡ drop (at + length p) w
  rest_gap lt e =
      let z = replicate {A = ℕ} (at - n) 0 in
      let k : n + (at - n) ≡ at = omega arith in
      let l : length (take n w ++ z) ≡ at = length-append (take n w) z ∙ omega (arith, length_old, length-replicate {A = ℕ} (at - n) 0) in
      ap (drop (at + length p)) (e ∙ paste_all w n z (at - n) (sym (length-replicate {A = ℕ} (at - n) 0)) ∙ sym (append_assoc (take n w) z (drop (n + (at - n)) w)) ∙ ap (λ (m : ℕ). (take n w ++ z) ++ drop m w) k)
      ∙ drop-append-drop at w (take n w ++ z) (at + length p) (omega arith) l

  joined_parts : take at w1 ≡ take at (padded (at + length p) (take n w)) → drop (at + length p) w1 ≡ drop (at + length p) w
      → drop (at + length p) (padded (at + length p) (take n w)) ++ drop (length (laid at p (take n w))) w ≡ drop (at + length p) w
      → paste w1 at p (length p) ≡ fronted (laid at p (take n w)) w
  unfolding laid overlaid
  joined_parts f r q =
      let b = padded (at + length p) (take n w) in
      paste_all w1 at p (length p) refl
      ∙ ap (λ (xs : Bytes). xs ++ (p ++ drop (at + length p) w1)) f
      ∙ ap (λ (xs : Bytes). take at b ++ (p ++ xs)) (r ∙ sym q)
      ∙ ap (λ (xs : Bytes). take at b ++ xs) (sym (append_assoc p (drop (at + length p) b) (drop (length (laid at p (take n w))) w)))
      ∙ sym (append_assoc (take at b) (p ++ drop (at + length p) b) (drop (length (laid at p (take n w))) w))

  rest : drop (at + length p) (padded (at + length p) (take n w)) ++ drop (length (laid at p (take n w))) w ≡ drop (at + length p) w
  rest = elim (cases_lt (at + length p) n) [ inl lt ↦ rest_long lt | inr le ↦ rest_short le ]

  pub laid-after_gap : n < at → w1 ≡ paste w n (replicate (at - n) 0) (at - n) → paste w1 at p (length p) ≡ fronted (laid at p (take n w)) w
  laid-after_gap lt e = joined_parts (front_gap lt e) (rest_gap lt e) rest

  pub laid-within : at ≤ n → w1 ≡ w → paste w1 at p (length p) ≡ fronted (laid at p (take n w)) w
  laid-within le e = joined_parts (front_none le e) (ap (drop (at + length p)) e) rest

-- the bytes of a patch whose place is inside
pub length-patch_bytes : (d : Bytes) (p : Patch) → p.start + p.len ≤ length d → length (patch_bytes d p) ≡ p.len
length-patch_bytes d p h = length-take-le p.len (drop p.start d) (omega (arith, length-drop p.start d))

-- a place that `places_inside` passes
pub place_at : (n : ℕ) (ps : List Patch) (i : ℕ) (x : Patch) → places_inside n 0 ps ≡ None → i < length ps → (get_or ps i x).start + (get_or ps i x).len ≤ n
place_at n ps i x e h = leb-true ((get_or ps i x).start + (get_or ps i x).len) n (good_at (λ p. leb (p.start + p.len) n) (λ j _. refusal_at 6 j) ps 0 i x e h)

-- patches in turn: one more
pub laid_more : (d : Bytes) (ps : List Patch) (b : Bytes) (i : ℕ) (x : Patch) → i < length ps → laid_all d (take (i + 1) ps) b ≡ laid (get_or ps i x).offset (patch_bytes d (get_or ps i x)) (laid_all d (take i ps) b)
unfolding laid_all
laid_more d ps b i x h = fold_more (λ c p. laid p.offset (patch_bytes d p) c) b ps i x h

pub laid_none : (d : Bytes) (ps : List Patch) (b : Bytes) → laid_all d (take 0 ps) b ≡ b
unfolding laid_all
laid_none d ps b = refl

pub laid_all_lem : (d : Bytes) (ps : List Patch) (b : Bytes) (i : ℕ) → length ps ≤ i → laid_all d (take i ps) b ≡ laid_all d ps b
laid_all_lem d ps b i h = ap (λ (xs : List Patch). laid_all d xs b) (take_all i ps h)

pub patched_more : (n : ℕ) (ps : List Patch) (i : ℕ) (x : Patch) → i < length ps → patched_length n (take (i + 1) ps) ≡ max (patched_length n (take i ps)) ((get_or ps i x).offset + (get_or ps i x).len)
unfolding patched_length
patched_more n ps i x h = fold_more (λ m p. max m (p.offset + p.len)) n ps i x h

pub patched_none : (n : ℕ) (ps : List Patch) → patched_length n (take 0 ps) ≡ n
unfolding patched_length
patched_none n ps = refl

pub patched_all : (n : ℕ) (ps : List Patch) (i : ℕ) → length ps ≤ i → patched_length n (take i ps) ≡ patched_length n ps
patched_all n ps i h = ap (patched_length n) (take_all i ps h)

-- the patched length is at least the old one and each patch's end
pub patched_old : (n : ℕ) (ps : List Patch) → n ≤ patched_length n ps
unfolding patched_length
patched_old n [] = omega arith
patched_old n (p ∷ ps) = omega (arith, patched_old (max n (p.offset + p.len)) ps)

pub patched_end : (n : ℕ) (ps : List Patch) (i : ℕ) (x : Patch) → i < length ps → (get_or ps i x).offset + (get_or ps i x).len ≤ patched_length n ps
unfolding patched_length
patched_end n [] i x h = absurd (omega arith)
patched_end n (p ∷ ps) zero x h = omega (arith, patched_old (max n (p.offset + p.len)) ps)
patched_end n (p ∷ ps) (suc i) x h = patched_end (max n (p.offset + p.len)) ps i x (omega arith)

-- the patched length is the length of the patched bytes
pub length-laid_all : (d : Bytes) (ps : List Patch) (b : Bytes) (k : ℕ) → places_inside (length d) k ps ≡ None → length (laid_all d ps b) ≡ patched_length (length b) ps
unfolding laid_all patched_length
length-laid_all d [] b k e = refl
length-laid_all d (p ∷ ps) b k e =
    let inside : p.start + p.len ≤ length d = leb-true (p.start + p.len) (length d) (good_head (λ q. leb (q.start + q.len) (length d)) (λ j _. refusal_at 6 j) k p ps e) in
    let more = good_tail (λ q. leb (q.start + q.len) (length d)) (λ j _. refusal_at 6 j) k p ps e in
    let l : length (laid p.offset (patch_bytes d p) b) ≡ max (length b) (p.offset + p.len) = omega (arith, length-laid p.offset (patch_bytes d p) b, length-patch_bytes d p inside) in
    length-laid_all d ps (laid p.offset (patch_bytes d p) b) (k + 1) more ∙ ap (λ (m : ℕ). patched_length m ps) l

-- a loop that lays: the buffer's front is what was laid so far
pub fronted-fronted : (new old w : Bytes) → length old ≤ length new → fronted new (fronted old w) ≡ fronted new w
fronted-fronted new old w h = ap (λ (xs : Bytes). new ++ xs) (drop-append-drop (length old) w old (length new) h refl)

pub fronted-take : (n : ℕ) (w : Bytes) → n ≤ length w → w ≡ fronted (take n w) w
fronted-take n w h = sym (take-append-drop n w) ∙ ap (λ (k : ℕ). take n w ++ drop k w) (sym (length-take-le n w h))

pub take-fronted : (n : ℕ) (new w : Bytes) → n ≡ length new → take n (fronted new w) ≡ new
take-fronted n new w e = take_at new (drop (length new) w) n (sym e)

-- what an index past the end reads
abbrev pub blank : Patch
blank = record { offset = 0; start = 0; len = 0 }

-- one more turn of such a loop: b are the old bytes, w the buffer with them at its front
pub laid_in_turn : (d : Bytes) (ps : List Patch) (w b now next : Bytes) (i n m : ℕ) → i < length ps
    → (get_or ps i blank).start + (get_or ps i blank).len ≤ length d
    → n ≡ length (laid_all d (take i ps) b)
    → now ≡ fronted (laid_all d (take i ps) b) w
    → m ≡ max n ((get_or ps i blank).offset + (get_or ps i blank).len)
    → next ≡ fronted (laid (get_or ps i blank).offset (patch_bytes d (get_or ps i blank)) (take n now)) now
    → (m ≡ length (laid_all d (take (i + 1) ps) b)) × (next ≡ fronted (laid_all d (take (i + 1) ps) b) w)
laid_in_turn d ps w b now next i n m h inside e-n e-now e-m e-next =
    let o = (get_or ps i blank).offset in
    let p = patch_bytes d (get_or ps i blank) in
    let cur = laid_all d (take i ps) b in
    let more = laid_more d ps b i blank h in
    let l = length-patch_bytes d (get_or ps i blank) inside in
    let ll = length-laid o p cur in (
      omega (arith, ap length more, l, ll),
      e-next
          ∙ ap (λ (xs : Bytes). fronted (laid o p (take n xs)) xs) e-now
          ∙ ap (λ (xs : Bytes). fronted (laid o p xs) (fronted cur w)) (take-fronted n cur w e-n)
          ∙ fronted-fronted (laid o p cur) cur w (omega (arith, ll))
          ∙ ap (λ (xs : Bytes). fronted xs w) (sym more),
    )

-- the questions are the same, with the old bytes beside the buffer or at its front
pub same_questions : (d : Bytes) (ps : List Patch) (b : Bytes) (space : ℕ) → in_place_no d ps (length b) space ≡ lay_no d ps b space
same_questions d ps b space = go (few ps) (places_inside (length d) 0 ps) refl
  where
    go : (q r : Option Refusal) → places_inside (length d) 0 ps ≡ r
        → first_no (q ∷ r ∷ room space (patched_length (length b) ps) ∷ []) ≡ first_no (q ∷ r ∷ room space (length (laid_all d ps b)) ∷ [])
    go (Some e) r h = refl
    go None (Some e) h = refl
    go None None h = ap (λ (n : ℕ). first_no (room space n ∷ [])) (sym (length-laid_all d ps b 0 h))

-- what a buffer has room for, once the questions are answered yes
pub old_fits : (d : Bytes) (ps : List Patch) (n space : ℕ) → in_place_no d ps n space ≡ None → n ≤ space
old_fits d ps n space h =
    let r = none_of_three (few ps) (places_inside (length d) 0 ps) (room space (patched_length n ps)) h in
    omega (arith, patched_old n ps, enough_from_room space (patched_length n ps) r.2)

-- laying on a copy of the old bytes at the buffer's front
pub laid_on_copy : (d : Bytes) (ps : List Patch) (old w w1 next : Bytes) (m : ℕ) → places_inside (length d) 0 ps ≡ None → w1 ≡ fronted old w
    → m ≡ length (laid_all d ps (take (length old) w1))
    → next ≡ fronted (laid_all d ps (take (length old) w1)) w1
    → (m ≡ length (laid_all d ps old)) × (next ≡ fronted (laid_all d ps old) w)
laid_on_copy d ps old w w1 next m places e e-m e-next =
    let t = ap (take (length old)) e ∙ take-fronted (length old) old w refl in
    let le : length old ≤ length (laid_all d ps old) = omega (arith, length-laid_all d ps old 0 places, patched_old (length old) ps) in (
      e-m ∙ ap (λ (xs : Bytes). length (laid_all d ps xs)) t,
      e-next
          ∙ ap (λ (xs : Bytes). fronted (laid_all d ps xs) w1) t
          ∙ ap (fronted (laid_all d ps old)) e
          ∙ fronted-fronted (laid_all d ps old) old w le,
    )

-- the places are inside, once the questions are answered yes
pub places_fit : (d : Bytes) (ps : List Patch) (n space : ℕ) → in_place_no d ps n space ≡ None → places_inside (length d) 0 ps ≡ None
places_fit d ps n space h = (none_of_three (few ps) (places_inside (length d) 0 ps) (room space (patched_length n ps)) h).1

-- there is room for the patched bytes, once the questions are answered yes
pub space_fits : (d : Bytes) (ps : List Patch) (n space : ℕ) → in_place_no d ps n space ≡ None → patched_length n ps ≤ space
space_fits d ps n space h = enough_from_room space (patched_length n ps) (none_of_three (few ps) (places_inside (length d) 0 ps) (room space (patched_length n ps)) h).2

pub length-fronted : (new old : Bytes) → length new ≤ length old → length (fronted new old) ≡ length old
length-fronted new old h = omega (arith, length-append new (drop (length new) old), length-drop (length new) old)
