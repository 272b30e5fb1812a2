-- A store's reading of one range, of the output's length.
use Rattle.std.proofs.Common.{◌≡◌, ℕ, ◌+◌, ◌^◌, ◌<◌, Bool, true, false, cond, leb, ◌++◌, length, take, drop, Some, None, Ok, Err, Option, Result, sym, refl, ap, ◌∙◌, append-nil, arith}
use Rattle.std.proofs.lemmas.Bool.{leb-true, cond-true, cond-false}
use Rattle.std.proofs.lemmas.List.{length-take-le, length-drop, drop_all}
use Rattle.keys.specs.Text.{Bytes}
use Rattle.ranges.specs.Buffers.{fronted}
use Rattle.ranges.specs.declared.byte_range.ByteRange.{ByteRange}
use Rattle.ranges.specs.declared.byte_range.ByteRange.TheVariants.{FromStart}
use Rattle.ranges.specs.Ranges.{picked}
use Rattle.ranges.specs.Refusals.{Refusal, room}
use Rattle.ranges.proofs.Questions.{room_enough}
use Rattle.extraction.proofs.Picks.{picked_fits}
use Rattle.storage.specs.Contents.{Contents, Sound, found}
use Rattle.storage.proofs.Sizes.{found_most}
use Rattle.storage.specs.Faults.{answered}
use Rattle.storage.specs.Readings.{deepened, RangeRead}
use Rattle.storage.specs.declared.fault.Fault.{Fault}
use Rattle.readers.specs.Parts.{part_answer, part_filled}
use Rattle.readers.specs.Readers.{part_fault}

-- a front as long as the whole
fronted_all : (x out : Bytes) → length x ≡ length out → fronted x out ≡ x
fronted_all x out e = ap (λ (n : ℕ). x ++ drop n out) e ∙ ap (λ (ys : Bytes). x ++ ys) (drop_all (length out) out (omega arith)) ∙ append-nil x

pub part-read :
    (l : ℕ) (v : Option Bytes) (p : ℕ) (r : Result (Option ℕ) Fault) (out out' : Bytes)
    → RangeRead l v (FromStart p (Some (length out))) r out out'
    → (r ≡ part_answer v p (length out)) × (out' ≡ part_filled v p out)
part-read l None p r out out' h = let e : r ≡ Ok None = h.answer in (e, h.output ∙ rw e refl)
part-read l (Some b) p r out out' h = go (leb (p + length out) (length b)) refl
  where
    g : ByteRange
    g = FromStart p (Some (length out))

    go : (t : Bool) → leb (p + length out) (length b) ≡ t → (r ≡ part_answer (Some b) p (length out)) × (out' ≡ part_filled (Some b) p out)
    go true e =
        let x = take (length out) (drop p b) in
        let is : picked b g ≡ x = picked_fits b g e in
        let len : length x ≡ length out = length-take-le (length out) (drop p b) (omega (arith, length-drop p b, leb-true (p + length out) (length b) e)) in
        let q : r ≡ Ok (Some (length out)) =
        h.answer
        ∙ cond-true _ _ _ e
        ∙ ap (λ (y : Bytes). deepened l (answered (room (length out) (length y)) (Some (length y)))) is
        ∙ ap (λ (n : ℕ). deepened l (answered (room (length out) n) (Some n))) len
        ∙ ap (λ (o : Option Refusal). deepened l (answered o (Some (length out)))) (room_enough (length out) (length out) (omega arith)) in
        (q ∙ sym (cond-true _ _ _ e), h.output ∙ rw (q, is) (fronted_all x out len) ∙ sym (cond-true _ _ _ e))
    go false e =
        let q = h.answer ∙ cond-false _ _ _ e in
        (q ∙ sym (cond-false _ _ _ e), h.output ∙ rw q refl ∙ sym (cond-false _ _ _ e))

-- the position behind what was read fits
pub read_fits : (k : Bytes) (c : Contents) (p n : ℕ) (o : Option ℕ) (m : ℕ) → Sound c → Ok o ≡ part_answer (found k c) p n → o ≡ Some m → p + m < 2 ^ 63
read_fits k c p n o m s h e = by (found k c) refl (ap Ok (sym e) ∙ h)
  where
    by : (v : Option Bytes) → found k c ≡ v → ◌≡◌ {A = Result (Option ℕ) Fault} (Ok (Some m)) (part_answer v p n) → p + m < 2 ^ 63
    by None q h = let z : ◌≡◌ {A = ℕ} 0 1 = cc in absurd (omega arith)
    by (Some b) q h = go (leb (p + n) (length b)) refl h
      where
        go : (t : Bool) → leb (p + n) (length b) ≡ t → ◌≡◌ {A = Result (Option ℕ) Fault} (Ok (Some m)) (cond t (Ok (Some n)) (Err (part_fault (length b) p n))) → p + m < 2 ^ 63
        go true w h = let i : m ≡ n = cc in omega (arith, leb-true (p + n) (length b) w, found_most k c b s.ascends q, s.small)
        go false w h = let z : ◌≡◌ {A = ℕ} 0 1 = cc in absurd (omega arith)
