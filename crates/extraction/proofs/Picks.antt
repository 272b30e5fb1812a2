-- Laws of the bytes that ranges pick.
use Rattle.std.proofs.Common.{◌≡◌, ℕ, ◌+◌, ◌-◌, ◌<◌, ◌≤◌, Bool, true, false, [], length, take, drop, Some, None, Ok, Err, Result, sym, refl, ap, ◌∙◌, arith}
use Rattle.std.specs.Option.{ok_or}
use Rattle.std.proofs.lemmas.List.{take_rest}
use Rattle.ranges.specs.declared.byte_range.ByteRange.{ByteRange}
use Rattle.ranges.specs.declared.byte_range.ByteRange.TheVariants.{FromStart, Suffix}
use Rattle.ranges.specs.Ranges.{Bytes, fitting, inside, picked, only_if}
use Rattle.ranges.specs.declared.byte_range.InvalidByteRangeError.{InvalidByteRangeError}
use Rattle.std.specs.Prelude.{IsErrAnd}
use Rattle.ranges.specs.Refusals.{Refusal, refusal, range_refusal, told, unfit, unless}
use Rattle.extraction.specs.Notes.{Note}
use Rattle.extraction.specs.declared.ExtractError.{ExtractError}
use Rattle.extraction.specs.declared.ExtractError.TheVariants.{Unfit}
use Rattle.ranges.proofs.Questions.{bad_none, bad_next, bad_here, room_short, room_enough}
use Rattle.extraction.specs.Extracts.{extract_refusal, note_at, one_no}

-- the bytes of a range that fits, as an answer
pub picked_fits : (b : Bytes) (r : ByteRange) → fitting r (length b) ≡ true → picked b r ≡ inside b r
unfolding picked
picked_fits b r f = rw f

pub picked-unfit : (b : Bytes) (r : ByteRange) → fitting r (length b) ≡ false → picked b r ≡ []
unfolding picked
picked-unfit b r f = rw f

-- what a range picks, as it is cut from the bytes
pub cut_rest : (b : Bytes) (r : ByteRange) (o : ℕ) → r ≡ FromStart o None → take (length b - o) (drop o b) ≡ inside b r
cut_rest b r o is = take_rest b o ∙ ap (inside b) (sym is)

pub cut_part : (b : Bytes) (r : ByteRange) (o l : ℕ) → r ≡ FromStart o (Some l) → take (o + l - o) (drop o b) ≡ inside b r
cut_part b r o l is =
    let k : o + l - o ≡ l = omega arith in
    ap (λ (n : ℕ). take n (drop o b)) k ∙ ap (inside b) (sym is)

pub cut_end : (b : Bytes) (r : ByteRange) (l : ℕ) → r ≡ Suffix l → take (length b - (length b - l)) (drop (length b - l) b) ≡ inside b r
cut_end b r l is = take_rest b (length b - l) ∙ ap (inside b) (sym is)

-- what `pick` answers: the picked bytes of a range that fits, else its fault
pub ok_only : {X : Type 0} (t : Bool) (p : X) (e : Refusal) (x : X) → ◌≡◌ {A = Result X Refusal} (Ok x) (ok_or (only_if t p) e) → (t ≡ true) × (x ≡ p)
ok_only true p e x h = (refl, cc)
ok_only false p e x h = absurd (let z : ◌≡◌ {A = ℕ} 0 1 = cc in omega arith)

pub err_only : {X : Type 0} (t : Bool) (p : X) (e f : Refusal) → ◌≡◌ {A = Result X Refusal} (Err f) (ok_or (only_if t p) e) → (t ≡ false) × (f ≡ e)
err_only true p e f h = absurd (let z : ◌≡◌ {A = ℕ} 0 1 = cc in omega arith)
err_only false p e f h = (refl, cc)

pub picked_from_ok : (b : Bytes) (r : ByteRange) (e : Refusal) (x : Bytes) → ◌≡◌ {A = Result Bytes Refusal} (Ok x) (ok_or (only_if (fitting r (length b)) (inside b r)) e) → x ≡ picked b r
picked_from_ok b r e x h =
    let p = ok_only (fitting r (length b)) (inside b r) e x h in
    p.1 ∙ sym (picked_fits b r p.0)

pub picked_from_err : (b : Bytes) (r : ByteRange) (e f : Refusal) → ◌≡◌ {A = Result Bytes Refusal} (Err f) (ok_or (only_if (fitting r (length b)) (inside b r)) e) → picked b r ≡ []
picked_from_err b r e f h = picked-unfit b r (err_only (fitting r (length b)) (inside b r) e f h).0

-- the questions of one range
module _ (b : Bytes) (r : ByteRange) where
  pub one_no_lem : (space : ℕ) (e : Refusal) → fitting r (length b) ≡ false → e ≡ unfit 0 r (length b) → Err e ≡ unless (one_no b r space) (length (picked b r))
  one_no_lem space e f h = rw (bad_here (λ q. fitting q (length b)) (λ j q. unfit j q (length b)) 0 r [] f, h)

  pub one_short : (space : ℕ) → fitting r (length b) ≡ true → space < length (picked b r) → Err (refusal 9) ≡ unless (one_no b r space) (length (picked b r))
  one_short space f h = rw (bad_next (λ q. fitting q (length b)) (λ j q. unfit j q (length b)) 0 r [] f, bad_none (λ q. fitting q (length b)) (λ j q. unfit j q (length b)) (0 + 1), room_short space (length (picked b r)) h)

  pub one_yes : (space n : ℕ) → fitting r (length b) ≡ true → n ≡ length (picked b r) → n ≤ space → Ok n ≡ unless (one_no b r space) (length (picked b r))
  one_yes space n f e h = rw (bad_next (λ q. fitting q (length b)) (λ j q. unfit j q (length b)) 0 r [] f, bad_none (λ q. fitting q (length b)) (λ j q. unfit j q (length b)) (0 + 1), room_enough space (length (picked b r)) (omega arith), e)

  -- what `pick` refuses, told as an extraction of one range
  pub one_told : (space : ℕ) (e : InvalidByteRangeError) (q : Result ℕ ExtractError) → ◌≡◌ {A = Result Bytes Refusal} (Err (range_refusal e)) (ok_or (only_if (fitting r (length b)) (inside b r)) (unfit 0 r (length b))) → IsErrAnd q (λ x. x ≡ Unfit 0 e) → told extract_refusal q ≡ unless (one_no b r space) (length (picked b r))
  one_told space e (Ok n) h k = absurd k
  one_told space e (Err x) h k =
      let p = err_only (fitting r (length b)) (inside b r) (unfit 0 r (length b)) (range_refusal e) h in
      ap (λ z. Err (extract_refusal z)) k ∙ one_no_lem space (range_refusal e) p.0 p.1

  -- the note of what `pick` answers
  pub noted_ok : (at : ℕ) (x : Bytes) → ◌≡◌ {A = Result Bytes Refusal} (Ok x) (ok_or (only_if (fitting r (length b)) (inside b r)) (unfit 0 r (length b))) → ◌≡◌ {A = Note} (Ok (record { start = at; len = length x })) (note_at at b r)
  noted_ok at x h =
      let p = ok_only (fitting r (length b)) (inside b r) (unfit 0 r (length b)) x h in
      rw (p.0, picked_from_ok b r (unfit 0 r (length b)) x h) refl
