-- Ranges that fit are read through a reader as they are extracted from the bytes.
use Rattle.std.proofs.Common.{◌≡◌, ℕ, ◌+◌, ◌-◌, ◌≤◌, Bool, true, false, ltb, List, [], ◌∷◌, ◌++◌, length, Some, None, Ok, Option, Result, sym, refl, ap, ◌∙◌, arith}
use Rattle.std.proofs.lemmas.Bool.{leb-true, lt-ltb, le-ltb, and_right}
use Rattle.std.proofs.lemmas.List.{flat_map_more, length-append, length_push}
use Rattle.keys.specs.Text.{Bytes}
use Rattle.ranges.specs.Buffers.{fronted}
use Rattle.ranges.specs.Ranges.{only_if, fitting, start_of, inside, picked}
use Rattle.ranges.specs.Refusals.{Refusal, refusal, unfit, first_no, few, all_fit, room}
use Rattle.ranges.specs.declared.byte_range.ByteRange.{ByteRange}
use Rattle.ranges.specs.declared.byte_range.ByteRange.TheVariants.{FromStart, Suffix}
use Rattle.ranges.proofs.Questions.{good_head, good_tail, enough_from_room}
use Rattle.extraction.specs.Extracts.{items, note_at, notes_from, extract_no}
use Rattle.extraction.specs.Notes.{Note, placed}
use Rattle.extraction.proofs.Picks.{picked_fits}
use Rattle.storage.specs.Contents.{bytes_of}
use Rattle.readers.specs.declared.reader_fault.ReaderFault.{ReaderFault}
use Rattle.readers.specs.declared.reader_fault.ReadCause.TheVariants as cause
use Rattle.readers.specs.ReaderFaults.{refused, from_store, first_of}
use Rattle.readers.specs.Readers.{read_no, part_fault}
use Rattle.readers.specs.ReadSeek.{read_length, item_no, item_bytes, first_refused, places_from, end_no, open_no, ItemsRead, ReadOrNot, Extracted}
use Rattle.readers.specs.Agreement.{AsExtracted}
use Rattle.readers.proofs.Items.{item_no_lem, item_has}
use Rattle.readers.proofs.Turns.{refused_next, refused_none}

-- a read within the value
read_within : (b : Bytes) (p n : ℕ) → p + n ≤ length b → read_no (Some b) p n ≡ None
read_within b p n h = ap (λ (t : Bool). only_if t (from_store (part_fault (length b) p n))) (and_right (ltb 0 n) (ltb (length b) (p + n)) (le-ltb (length b) (p + n) h))

-- a range that fits has a start, and its bytes are there
record Starts (b : Bytes) (r : ByteRange) : Type 0 where
  pub at : ℕ
  pub is : start_of r (length b) ≡ Some at
  pub there : read_no (Some b) at (read_length r (length b)) ≡ None

fit_starts : (b : Bytes) (r : ByteRange) → fitting r (length b) ≡ true → Starts b r
fit_starts b (FromStart o None) f =
    record { at = o; is = refl; there = rw f (read_within b o (length b - o) (omega (arith, leb-true o (length b) f))) }
fit_starts b (FromStart o (Some l)) f = record { at = o; is = refl; there = read_within b o l (leb-true (o + l) (length b) f) }
fit_starts b (Suffix l) f =
    record { at = length b - l; is = rw f refl; there = read_within b (length b - l) l (omega (arith, leb-true l (length b) f)) }

fit_asked : (b : Bytes) (space at : ℕ) (noted : Bool) (r : ByteRange) → fitting r (length b) ≡ true → noted ≡ true → at + length (inside b r) ≤ space → item_no b space at noted r ≡ None
fit_asked b space at noted r f t h =
    let s = fit_starts b r f in
    let has = item_has b r s.at s.is s.there in
    item_no_lem b space at noted r s.at s.is t (omega (arith, has.count)) ∙ s.there

-- ranges that all fit: no item is refused; bytes and notes are those of the extraction
module _ (b : Bytes) where
  abbrev fits : ByteRange → Bool
  fits r = fitting r (length b)

  abbrev tell : ℕ → ByteRange → Refusal
  tell i r = unfit i r (length b)

  none_refused : (space notes : ℕ) (before rs : List ByteRange) (i : ℕ) → all_fit (length b) i rs ≡ None → length (item_bytes b before) + length (item_bytes b rs) ≤ space → length before + length rs ≤ notes → first_refused b space notes before rs ≡ None
  none_refused space notes before [] i f h k = refused_none b space notes before
  none_refused space notes before (r ∷ rs) i f h k =
      let m = length-append (inside b r) (item_bytes b rs) in
      let l : length (item_bytes b (before ++ r ∷ [])) ≡ length (item_bytes b before) + length (inside b r) = ap length (sym (flat_map_more (inside b) [] before r)) ∙ length-append (item_bytes b before) (inside b r) in
      refused_next b space notes before r rs
      (fit_asked b space (length (item_bytes b before)) _ r (good_head fits tell i r rs f) (lt-ltb (length before) notes (omega arith)) (omega arith))
      ∙ none_refused space notes (before ++ r ∷ []) rs (i + 1) (good_tail fits tell i r rs f) (omega arith) (omega (arith, length_push before r))

  fit_bytes : (rs : List ByteRange) (i : ℕ) → all_fit (length b) i rs ≡ None → item_bytes b rs ≡ items b rs
  fit_bytes [] i f = refl
  fit_bytes (r ∷ rs) i f =
      ap (λ (x : Bytes). x ++ item_bytes b rs) (sym (picked_fits b r (good_head fits tell i r rs f)))
      ∙ ap (λ (x : Bytes). picked b r ++ x) (fit_bytes rs (i + 1) (good_tail fits tell i r rs f))

  fit_notes : (at : ℕ) (rs : List ByteRange) (i : ℕ) → all_fit (length b) i rs ≡ None → places_from at b rs ≡ notes_from at b rs
  unfolding places_from notes_from
  fit_notes at [] i f = refl
  fit_notes at (r ∷ rs) i f =
      let g = good_head fits tell i r rs f in
      let p = ap length (sym (picked_fits b r g)) in
      let here : placed at (length (inside b r)) ≡ note_at at b r = rw g (ap (λ (n : ℕ). placed at n) p) in
      ap (λ (x : Note). x ∷ places_from (at + length (inside b r)) b rs) here
      ∙ ap (λ (n : ℕ). note_at at b r ∷ places_from (at + n) b rs) p
      ∙ ap (λ (xs : List Note). note_at at b r ∷ xs) (fit_notes (at + length (picked b r)) rs (i + 1) (good_tail fits tell i r rs f))

-- the questions of an extraction, passed
passed : (q : Option Refusal) (qs : List (Option Refusal)) → first_no (q ∷ qs) ≡ None → (q ≡ None) × (first_no qs ≡ None)
passed None qs h = (refl, h)
passed (Some e) qs h = let z : ◌≡◌ {A = ℕ} 0 1 = cc in absurd (omega arith)

not_many : (v : Option Bytes) (rs : List ByteRange) → few rs ≡ None → end_no v ≡ None → open_no v rs ≡ None
not_many v rs h e = go (ltb 64 (length rs)) h
  where
    go : (t : Bool) → only_if t (refusal 6) ≡ None → first_of (only_if t (refused cause.Limit)) (end_no v) ≡ None
    go true h = let z : ◌≡◌ {A = ℕ} 0 1 = cc in absurd (omega arith)
    go false h = e

-- what was read where no question was answered no
stopped : (b : Bytes) (rs : List ByteRange) (r : Result ℕ ReaderFault) (out out' : Bytes) (notes notes' : List Note) (stop : Option ReaderFault) → stop ≡ None → item_bytes b rs ≡ items b rs → places_from 0 b rs ≡ notes_from 0 b rs → ItemsRead b rs stop r out out' notes notes' → AsExtracted b rs r out out' notes notes'
stopped b rs r out out' notes notes' None e same told h =
    record {
      answer = h.answer ∙ ap (λ (x : Bytes). Ok (length x)) same;
      output = h.output ∙ ap (λ (x : Bytes). fronted x out) same;
      noted = h.noted ∙ ap (λ (x : List Note). fronted x notes) told;
    }
stopped b rs r out out' notes notes' (Some f) e same told h = let z : ◌≡◌ {A = ℕ} 0 1 = cc in absurd (omega arith)

read :
    (v : Option Bytes) (rs : List ByteRange) (r : Result ℕ ReaderFault) (out out' : Bytes) (notes notes' : List Note) (o : Option ReaderFault)
    → o ≡ None
    → first_refused (bytes_of v) (length out) (length notes) [] rs ≡ None
    → item_bytes (bytes_of v) rs ≡ items (bytes_of v) rs
    → places_from 0 (bytes_of v) rs ≡ notes_from 0 (bytes_of v) rs
    → ReadOrNot o (bytes_of v) rs r out out' notes notes'
    → AsExtracted (bytes_of v) rs r out out' notes notes'
read v rs r out out' notes notes' None e none same told h = stopped (bytes_of v) rs r out out' notes notes' _ none same told h
read v rs r out out' notes notes' (Some f) e none same told h = let z : ◌≡◌ {A = ℕ} 0 1 = cc in absurd (omega arith)

pub agrees :
    (v : Option Bytes) (rs : List ByteRange) (r : Result ℕ ReaderFault) (out out' : Bytes) (notes notes' : List Note)
    → Extracted v rs r out out' notes notes'
    → end_no v ≡ None
    → extract_no (bytes_of v) rs (length out) (length notes) ≡ None
    → AsExtracted (bytes_of v) rs r out out' notes notes'
agrees v rs r out out' notes notes' h e q =
    let b = bytes_of v in
    let fit = all_fit (length b) 0 rs in
    let space = room (length out) (length (items b rs)) in
    let places = room (length notes) (length rs) in
    let few-yes = passed (few rs) (fit ∷ space ∷ places ∷ []) q in
    let fit-yes = passed fit (space ∷ places ∷ []) few-yes.1 in
    let out-yes = passed space (places ∷ []) fit-yes.1 in
    let notes-yes = passed places [] out-yes.1 in
    let same = fit_bytes b rs 0 fit-yes.0 in
    let long = enough_from_room (length out) (length (items b rs)) out-yes.0 in
    let many = enough_from_room (length notes) (length rs) notes-yes.0 in
    let none = none_refused b (length out) (length notes) [] rs 0 fit-yes.0 (omega (arith, ap length same)) (omega arith) in
    read v rs r out out' notes notes' (open_no v rs) (not_many v rs few-yes.0 e) none same (fit_notes b 0 rs 0 fit-yes.0) h
