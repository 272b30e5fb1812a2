-- Readings of one range, and of the whole value, by the reading of many ranges.
use Rattle.std.proofs.Common.{◌≡◌, ℕ, Bool, true, false, cond, List, [], ◌∷◌, length, get_or, is_ok, Some, None, Ok, Err, Option, Result, sym, refl, ap, ◌∙◌, append-nil, arith}
use Rattle.std.proofs.lemmas.Bool.{le-leb, cond-true, cond-false}
use Rattle.keys.specs.Text.{Bytes}
use Rattle.ranges.specs.Buffers.{fronted}
use Rattle.ranges.specs.Refusals.{Refusal, first_no, room}
use Rattle.ranges.specs.declared.byte_range.ByteRange.{ByteRange}
use Rattle.ranges.specs.declared.byte_range.ByteRange.TheVariants.{FromStart}
use Rattle.ranges.specs.Ranges.{fitting, picked}
use Rattle.ranges.specs.declared.byte_range.InvalidByteRangeError.{InvalidByteRangeError}
use Rattle.ranges.proofs.Questions.{room_enough}
use Rattle.extraction.specs.Extracts.{items, notes_from, note_at, read_no}
use Rattle.extraction.specs.Notes.{Note}
use Rattle.extraction.specs.declared.Place.{Place}
use Rattle.extraction.proofs.Picks.{picked_fits, picked-unfit}
use Rattle.storage.specs.declared.fault.Fault.{Fault}
use Rattle.storage.specs.Contents.{bytes_of}
use Rattle.storage.specs.Faults.{answered, from_range}
use Rattle.storage.specs.Readings.{deepened, read_answer, read_bytes, value_answer, range_answer, RangesRead, ValueRead, RangeRead}

-- the note before a reading
abbrev pub blank : Note
blank = Ok (record { start = 0; len = 0 })

-- a reading of one range
items-one : (b : Bytes) (g : ByteRange) → items b (g ∷ []) ≡ picked b g
items-one b g = append-nil _

last_room : (q : Option Refusal) → first_no (q ∷ room 1 1 ∷ []) ≡ q
last_room None = refl
last_room (Some e) = refl

one_answer : (b : Bytes) (g : ByteRange) (space : ℕ) → read_answer (Some b) (g ∷ []) space 1 ≡ answered (room space (length (picked b g))) (Some (length (picked b g)))
one_answer b g space =
    ap (λ (x : Bytes). answered (read_no b (g ∷ []) space 1) (Some (length x))) (items-one b g)
    ∙ ap (λ (q : Option Refusal). answered q (Some (length (picked b g))))
    (last_room (room space (length (items b (g ∷ [])))) ∙ ap (λ (x : Bytes). room space (length x)) (items-one b g))

module _ (n : ℕ) (g : ByteRange) (out out' : Bytes) (notes' : List Note) where
  -- what its note says
  noted : (b : Bytes) (k : Option ℕ) → RangesRead n (Some b) (g ∷ []) (Ok k) out out' (blank ∷ []) notes' → get_or notes' 0 blank ≡ note_at 0 b g
  unfolding notes_from
  noted b k h = ap (λ (ns : List Note). get_or ns 0 blank) h.noted

  filled : (b : Bytes) (k : Option ℕ) → RangesRead n (Some b) (g ∷ []) (Ok k) out out' (blank ∷ []) notes' → out' ≡ fronted (picked b g) out
  filled b k h = h.output ∙ ap (λ (x : Bytes). fronted x out) (items-one b g)

  fit_answer : (b : Bytes) (r : Result (Option ℕ) Fault) → fitting g (length b) ≡ true → RangesRead n (Some b) (g ∷ []) r out out' (blank ∷ []) notes' → r ≡ range_answer n (Some b) g (length out)
  fit_answer b r e h = h.answer ∙ ap (deepened n) (one_answer b g (length out)) ∙ sym (cond-true _ _ _ e)

  -- refused below
  pub one-refused : (v : Option Bytes) (f : Fault) → RangesRead n v (g ∷ []) (Err f) out out' (blank ∷ []) notes' → RangeRead n v g (Err f) out out'
  one-refused None f h = let e = h.answer in absurd (let z : ◌≡◌ {A = ℕ} 0 1 = cc in omega arith)
  one-refused (Some b) f h = go (fitting g (length b)) refl
    where
      go : (t : Bool) → fitting g (length b) ≡ t → RangeRead n (Some b) g (Err f) out out'
      go true e = record { answer = fit_answer b (Err f) e h; output = h.output }
      go false e =
          let none : deepened n (read_answer (Some b) (g ∷ []) (length out) 1) ≡ Ok (Some 0) =
          ap (deepened n) (one_answer b g (length out) ∙ ap (λ (x : Bytes). answered (room (length out) (length x)) (Some (length x))) (picked-unfit b g e) ∙ ap (λ (q : Option Refusal). answered q (Some 0)) (room_enough (length out) 0 (omega arith))) in
          let c = h.answer ∙ none in absurd (let z : ◌≡◌ {A = ℕ} 0 1 = cc in omega arith)

  -- noted with its bytes
  pub one_read : (v : Option Bytes) (k : Option ℕ) (p : Place) → RangesRead n v (g ∷ []) (Ok k) out out' (blank ∷ []) notes' → get_or notes' 0 blank ≡ Ok p → RangeRead n v g (Ok k) out out'
  one_read None k p h is = record { answer = h.answer; output = h.output }
  one_read (Some b) k p h is = go (fitting g (length b)) refl
    where
      go : (t : Bool) → fitting g (length b) ≡ t → RangeRead n (Some b) g (Ok k) out out'
      go true e = record { answer = fit_answer b (Ok k) e h; output = filled b k h }
      go false e = let c = sym is ∙ noted b k h ∙ cond-false _ _ _ e in absurd (let z : ◌≡◌ {A = ℕ} 0 1 = cc in omega arith)

  -- noted as unfit
  pub one-unfit : (v : Option Bytes) (k : Option ℕ) (e : InvalidByteRangeError) (f : Fault) → RangesRead n v (g ∷ []) (Ok k) out out' (blank ∷ []) notes' → get_or notes' 0 blank ≡ Err e → f ≡ from_range e → RangeRead n v g (Err f) out out'
  one-unfit None k e f h is from = let c = sym is ∙ ap (λ (ns : List Note). get_or ns 0 blank) h.noted in absurd (let z : ◌≡◌ {A = ℕ} 0 1 = cc in omega arith)
  one-unfit (Some b) k e f h is from = go (fitting g (length b)) refl
    where
      go : (t : Bool) → fitting g (length b) ≡ t → RangeRead n (Some b) g (Err f) out out'
      go true t = let c = sym is ∙ noted b k h ∙ cond-true _ _ _ t in absurd (let z : ◌≡◌ {A = ℕ} 0 1 = cc in omega arith)
      go false t =
          let c : Err e ≡ Err (record { range = g; size = length b }) = sym is ∙ noted b k h ∙ cond-false _ _ _ t in
          let same : e ≡ record { range = g; size = length b } = cc in
          record {
            answer = ap Err (from ∙ ap (λ (x : InvalidByteRangeError). from_range x) same) ∙ sym (cond-false _ _ _ t);
            output = filled b k h ∙ ap (λ (x : Bytes). fronted x out) (picked-unfit b g t);
          }

-- a reading of the whole value
abbrev whole : ByteRange
whole = FromStart 0 None

picked_whole : (b : Bytes) → picked b whole ≡ b
picked_whole b = picked_fits b whole (le-leb 0 (length b) (omega arith))

whole_answer : (v : Option Bytes) (space : ℕ) → read_answer v (whole ∷ []) space 1 ≡ value_answer v space
whole_answer None space = refl
whole_answer (Some b) space = one_answer b whole space ∙ ap (λ (x : Bytes). answered (room space (length x)) (Some (length x))) (picked_whole b)

whole_bytes : (v : Option Bytes) → read_bytes v (whole ∷ []) ≡ bytes_of v
whole_bytes None = refl
whole_bytes (Some b) = items-one b whole ∙ picked_whole b

pub value_read_lem : (n : ℕ) (v : Option Bytes) (r : Result (Option ℕ) Fault) (out out' : Bytes) (notes notes' : List Note) → length notes ≡ 1 → RangesRead n v (whole ∷ []) r out out' notes notes' → ValueRead n v r out out'
value_read_lem n v r out out' notes notes' one h =
    record {
      answer = h.answer ∙ ap (λ m. deepened n (read_answer v (whole ∷ []) (length out) m)) one ∙ ap (deepened n) (whole_answer v (length out));
      output = h.output ∙ ap (λ (x : Bytes). cond (is_ok r) (fronted x out) out) (whole_bytes v);
    }
