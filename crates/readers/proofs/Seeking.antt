-- Laws of seeks to the first byte of an item.
use Rattle.std.proofs.Common.{◌≡◌, ℕ, ◌-◌, ◌^◌, ◌<◌, Bool, true, false, cond, ltb, leb, length, ℤ, pos, negsuc, ◌+ℤ◌, neg_ℤ, Some, None, Ok, Err, Option, Result, unwrap_or, refl, ap, ◌∙◌, arith}
use Rattle.std.proofs.lemmas.Int.{ints}
use Rattle.std.proofs.lemmas.Bool.{leb-true, leb-false, lt-ltb}
use Rattle.std.specs.Option.{ok_or}
use Rattle.keys.specs.Text.{Bytes}
use Rattle.ranges.specs.Ranges.{only_if, start_of}
use Rattle.ranges.specs.declared.byte_range.ByteRange.{ByteRange}
use Rattle.ranges.specs.declared.byte_range.ByteRange.TheVariants.{FromStart, Suffix}
use Rattle.storage.specs.Contents.{bytes_of, sized}
use Rattle.readers.specs.declared.reader.Reader.{Ghosts}
use Rattle.readers.specs.declared.reader_fault.ReaderFault.{ReaderFault}
use Rattle.readers.specs.declared.reader_fault.ReadCause.TheVariants as cause
use Rattle.readers.specs.declared.seek_from.SeekFrom.{SeekFrom}
use Rattle.readers.specs.declared.seek_from.SeekFrom.TheVariants.{Start, End}
use Rattle.readers.specs.ReaderFaults.{refused}
use Rattle.readers.specs.Readers.{seekable, shifted, shifted_from, sought, reached}
use Rattle.readers.specs.Moves.{MovedTo}
use Rattle.readers.specs.ItemSeeks.{item_seek, start_given}

-- a place as a seek meets it
seekable_below : (n : ℕ) → n < 2 ^ 63 → seekable (pos n) ≡ Some n
seekable_below n h = rw (lt-ltb n (2 ^ 63) h)

-- a seek from the end back by l bytes
back : (n l : ℕ) → n < 2 ^ 63 → shifted n (neg_ℤ (pos l)) ≡ start_given (only_if (leb l n) (n - l))
back n l h = ap (λ (o : Option ℕ). shifted_from o (neg_ℤ (pos l))) (seekable_below n h) ∙ go (leb l n) refl
  where
    go : (t : Bool) → leb l n ≡ t → ok_or (seekable (pos n +ℤ neg_ℤ (pos l))) (refused cause.Seek) ≡ start_given (only_if t (n - l))
    go true e =
        let le = leb-true l n e in
        let z : pos n +ℤ neg_ℤ (pos l) ≡ pos (n - l) = omega (arith, ints) in
        ap (λ (w : ℤ). ok_or (seekable w) (refused cause.Seek)) z
        ∙ ap (λ (o : Option ℕ). ok_or o (refused cause.Seek)) (seekable_below (n - l) (omega arith))
    go false e =
        let lt = leb-false l n e in
        let z : pos n +ℤ neg_ℤ (pos l) ≡ negsuc (l - n - 1) = omega (arith, ints) in
        ap (λ (w : ℤ). ok_or (seekable w) (refused cause.Seek)) z

item_sought : (n p : ℕ) (r : ByteRange) (from : SeekFrom) → n < 2 ^ 63 → Ok from ≡ item_seek r → sought (Some n) p from ≡ start_given (start_of r n)
item_sought n p (FromStart o l) from h e = let q : from ≡ Start o = cc in rw q refl
item_sought n p (Suffix l) from h e = go (ltb l (2 ^ 63)) e
  where
    go : (t : Bool) → ◌≡◌ {A = Result SeekFrom ReaderFault} (Ok from) (cond t (Ok (End (neg_ℤ (pos l)))) (Err (refused cause.Seek))) → sought (Some n) p from ≡ start_given (only_if (leb l n) (n - l))
    go true e = let q : from ≡ End (neg_ℤ (pos l)) = cc in rw q (back n l h)
    go false e = let z : ◌≡◌ {A = ℕ} 0 1 = cc in absurd (omega arith)

pub start_sought : (v : Option Bytes) (p : ℕ) (r : ByteRange) (from : SeekFrom) → v ≡ Some (bytes_of v) → length (bytes_of v) < 2 ^ 63 → Ok from ≡ item_seek r → sought (sized v) p from ≡ start_given (start_of r (length (bytes_of v)))
start_sought None p r from is h e = let z : ◌≡◌ {A = ℕ} 0 1 = cc in absurd (omega arith)
start_sought (Some b) p r from is h e = item_sought (length b) p r from h e

reached_start : (p : ℕ) (o : Option ℕ) → reached p (start_given o) ≡ unwrap_or o p
reached_start p None = refl
reached_start p (Some s) = refl

-- the same place, named otherwise
pub moved_at : {R : Type 0} (m : Ghosts R) (p q : ℕ) (s s' : R) → p ≡ q → MovedTo m p s s' → MovedTo m q s s'
moved_at m p q s s' e h = record { place = h.place ∙ e; value = h.value; rest = h.rest }

pub moved_start : {R : Type 0} (m : Ghosts R) (p : ℕ) (o : Option ℕ) (a : Result ℕ ReaderFault) (s s' : R) → a ≡ start_given o → MovedTo m (reached p a) s s' → MovedTo m (unwrap_or o p) s s'
moved_start m p o a s s' e h = moved_at m (reached p a) (unwrap_or o p) s s' (ap (reached p) e ∙ reached_start p o) h

-- one move after another
pub moved_on : {R : Type 0} (m : Ghosts R) (p q : ℕ) (s t u : R) → MovedTo m p s t → MovedTo m q t u → MovedTo m q s u
moved_on m p q s t u h k = record { place = k.place; value = k.value ∙ h.value; rest = λ x. k.rest x ∙ h.rest x }
