-- The items read in turn: what holds once i of them are read.
use Rattle.std.proofs.Common.{◌≡◌, ℕ, suc, ◌+◌, ◌^◌, ◌<◌, ◌≤◌, Bool, true, false, ltb, List, [], ◌∷◌, ◌++◌, length, get_or, take, drop, set, pos, Some, None, Ok, Err, Option, Result, unwrap_or, sym, refl, ap, ◌∙◌, add-zero, add_assoc, zero-add, arith}
use lib.Seq.{paste}
use Rattle.std.specs.List.{flat_map}
use Rattle.std.proofs.lemmas.List.{append_assoc, take_more, flat_map_more, length-append, length-take-le, take_all, drop_more, set_at, at_drop_more, at_drop_all}
use Rattle.std.proofs.lemmas.Bool.{ltb-true, le-ltb, lt-leb}
use Rattle.std.proofs.lemmas.List.Edits.{paste-paste, paste_none}
use Rattle.keys.specs.Text.{Bytes}
use Rattle.ranges.specs.Buffers.{fronted}
use Rattle.ranges.specs.Ranges.{only_if, start_of, inside}
use Rattle.ranges.specs.declared.byte_range.ByteRange.{ByteRange}
use Rattle.ranges.specs.declared.byte_range.ByteRange.TheVariants.{FromStart}
use Rattle.ranges.proofs.Writes.{fronted_from_paste}
use Rattle.extraction.specs.Notes.{Note, placed}
use Rattle.storage.specs.Contents.{bytes_of, sized}
use Rattle.readers.specs.declared.reader.Reader.{Ghosts}
use Rattle.readers.specs.declared.reader_fault.ReaderFault.{ReaderFault}
use Rattle.readers.specs.declared.reader_fault.ReadCause.TheVariants as cause
use Rattle.readers.specs.declared.seek_from.SeekFrom.TheVariants.{End}
use Rattle.readers.specs.ReaderFaults.{refused, refused_at, first_of, unless_fault}
use Rattle.readers.specs.Readers.{shifted_from, sought}
use Rattle.readers.specs.Moves.{MovedTo, value_in, HasValue}
use Rattle.readers.specs.ReadSeek.{item_no, item_bytes, first_refused, places_from, behind, left_at, ItemsRead, end_no, open_no, ReadOrNot, Extracted, place_after, extracted_at}
use Rattle.readers.proofs.Seeking.{moved_at, moved_on}
use Rattle.readers.proofs.Items.{given_none, given_some, given_is, item_placed}

-- the questions, item by item
module _ (b : Bytes) (space notes : ℕ) where
  pub refused_next : (before : List ByteRange) (r : ByteRange) (rs : List ByteRange) → item_no b space (length (item_bytes b before)) (ltb (length before) notes) r ≡ None → first_refused b space notes before (r ∷ rs) ≡ first_refused b space notes (before ++ r ∷ []) rs
  unfolding first_refused
  refused_next before r rs e = rw (e, first_refused) refl

  refused_here : (before : List ByteRange) (r : ByteRange) (rs : List ByteRange) (f : ReaderFault) → item_no b space (length (item_bytes b before)) (ltb (length before) notes) r ≡ Some f → first_refused b space notes before (r ∷ rs) ≡ Some (refused_at (length before) f.cause)
  unfolding first_refused
  refused_here before r rs f e = rw (e, first_refused) refl

  pub refused_none : (before : List ByteRange) → first_refused b space notes before [] ≡ None
  unfolding first_refused
  refused_none before = refl

-- one more item: bytes, notes, place
bytes_more : (b : Bytes) (rs : List ByteRange) (i : ℕ) (d : ByteRange) → i < length rs → item_bytes b (take (i + 1) rs) ≡ item_bytes b (take i rs) ++ inside b (get_or rs i d)
bytes_more b rs i d h = ap (flat_map (inside b)) (take_more rs i d h) ∙ sym (flat_map_more (inside b) [] (take i rs) (get_or rs i d))

places_push : (k : ℕ) (b : Bytes) (rs : List ByteRange) (r : ByteRange) → places_from k b (rs ++ r ∷ []) ≡ places_from k b rs ++ placed (k + length (item_bytes b rs)) (length (inside b r)) ∷ []
unfolding places_from
places_push k b [] r = ap (λ n. placed n (length (inside b r)) ∷ []) (sym (add-zero k))
places_push k b (x ∷ rs) r =
    ap (λ ns. placed k (length (inside b x)) ∷ ns)
    (places_push (k + length (inside b x)) b rs r
    ∙ ap (λ n. places_from (k + length (inside b x)) b rs ++ placed n (length (inside b r)) ∷ [])
    (add_assoc k (length (inside b x)) (length (item_bytes b rs)) ∙ ap (λ n. k + n) (sym (length-append (inside b x) (item_bytes b rs)))))

length_places : (k : ℕ) (b : Bytes) (rs : List ByteRange) → length (places_from k b rs) ≡ length rs
unfolding places_from
length_places k b [] = refl
length_places k b (r ∷ rs) = ap (λ n. suc n) (length_places (k + length (inside b r)) b rs)

behind_push : (b : Bytes) (p : ℕ) (rs : List ByteRange) (r : ByteRange) → behind b p (rs ++ r ∷ []) ≡ unwrap_or (start_of r (length b)) 0 + length (inside b r)
unfolding behind
behind_push b p [] r = refl
behind_push b p (x ∷ rs) r = behind_push b (unwrap_or (start_of x (length b)) 0 + length (inside b x)) rs r

places_none : (b : Bytes) → places_from 0 b [] ≡ []
unfolding places_from
places_none b = refl

behind_none : (b : Bytes) (p : ℕ) → behind b p [] ≡ p
unfolding behind
behind_none b p = refl

-- i items of the value in s are read, the reader is now s'
pub record Upto {R : Type 0} (m : Ghosts R) (rs : List ByteRange) (i at : ℕ) (s s' : R) (out out' : Bytes) (notes notes' : List Note) : Type 0 where
  pub count : at ≡ length (item_bytes (value_in m s) (take i rs))
  pub within : at ≤ length out
  pub bytes : out' ≡ paste out 0 (item_bytes (value_in m s) (take i rs)) at
  pub noted : notes' ≡ places_from 0 (value_in m s) (take i rs) ++ drop i notes
  pub place : MovedTo m (behind (value_in m s) (length (value_in m s)) (take i rs)) s s'
  pub next : first_refused (value_in m s) (length out) (length notes) (take i rs) (drop i rs) ≡ first_refused (value_in m s) (length out) (length notes) [] rs

module _ {R : Type 0} (m : Ghosts R) (rs : List ByteRange) (s : R) (out : Bytes) (notes : List Note) where
  abbrev b : Bytes
  b = value_in m s

  abbrev stop : Option ReaderFault
  stop = first_refused b (length out) (length notes) [] rs

  pub upto_none : m.position s ≡ length b → Upto m rs 0 0 s s out out notes notes
  upto_none e =
      record {
        count = refl;
        within = omega arith;
        bytes = paste_none out 0 [];
        noted = ap (λ (ns : List Note). ns ++ notes) (sym (places_none b));
        place = record { place = e ∙ sym (behind_none b (length b)); value = refl; rest = λ q. refl };
        next = refl;
      }

  -- all are read
  pub upto_all : (i at : ℕ) (s' : R) (out' : Bytes) (notes' : List Note) → length rs ≤ i → i ≤ length rs → Upto m rs i at s s' out out' notes notes' → ItemsRead b rs stop (Ok at) out out' notes notes' × MovedTo m (left_at b stop rs) s s'
  upto_all i at s' out' notes' h k u = by stop (sym u.next ∙ at_drop_all (first_refused b (length out) (length notes) (take i rs)) rs i h ∙ refused_none b (length out) (length notes) (take i rs))
    where
      all : take i rs ≡ rs
      all = take_all i rs h

      by : (q : Option ReaderFault) → q ≡ None → ItemsRead b rs q (Ok at) out out' notes notes' × MovedTo m (left_at b q rs) s s'
      by (Some f) e = let z : ◌≡◌ {A = ℕ} 0 1 = cc in absurd (omega arith)
      by None e = (
        record {
          answer = ap Ok (u.count ∙ ap (λ (xs : List ByteRange). length (item_bytes b xs)) all);
          output =
              u.bytes
              ∙ fronted_from_paste out (item_bytes b (take i rs)) at u.count
              ∙ ap (λ (xs : List ByteRange). fronted (item_bytes b xs) out) all;
          noted =
              u.noted
              ∙ ap (λ (xs : List ByteRange). places_from 0 b xs ++ drop i notes) all
              ∙ ap (λ (n : ℕ). places_from 0 b rs ++ drop n notes) (omega (arith, length_places 0 b rs));
        },
        moved_at m _ _ s s' (ap (behind b (length b)) all) u.place,
      )

  -- the next item
  abbrev item : ℕ → ByteRange
  item i = get_or rs i (FromStart 0 None)

  module _
      (i at : ℕ) (s' : R) (out' : Bytes) (notes' : List Note)
      (more : i < length rs)
      (as_long : length out' ≡ length out)
      (as_many : length notes' ≡ length notes)
      (u : Upto m rs i at s s' out out' notes notes')
    where
      same_value : value_in m s' ≡ b
      same_value = ap bytes_of u.place.value

      so_many : length (take i rs) ≡ i
      so_many = length-take-le i rs (omega arith)

      asked : item_no (value_in m s') (length out') at (ltb i (length notes')) (item i) ≡ item_no b (length out) (length (item_bytes b (take i rs))) (ltb (length (take i rs)) (length notes)) (item i)
      asked =
          ap (λ (v : Bytes). item_no v (length out') at (ltb i (length notes')) (item i)) same_value
          ∙ ap (λ (n : ℕ). item_no b n at (ltb i (length notes')) (item i)) as_long
          ∙ ap (λ (n : ℕ). item_no b (length out) n (ltb i (length notes')) (item i)) u.count
          ∙ ap (λ (n : ℕ). item_no b (length out) (length (item_bytes b (take i rs))) (ltb n (length notes')) (item i)) (sym so_many)
          ∙ ap (λ (n : ℕ). item_no b (length out) (length (item_bytes b (take i rs))) (ltb (length (take i rs)) n) (item i)) as_many

      left : stop ≡ first_refused b (length out) (length notes) (take i rs) (item i ∷ drop (i + 1) rs)
      left = sym u.next ∙ at_drop_more (first_refused b (length out) (length notes) (take i rs)) rs i (FromStart 0 None) more

      -- it is refused
      pub upto-refused :
          (f g : ReaderFault) (x size : ℕ) (s'' : R) (out'' : Bytes)
          → size ≡ length b
          → Err f ≡ unless_fault (item_no (value_in m s') (length out') at (ltb i (length notes')) (item i)) x
          → out'' ≡ out'
          → MovedTo m (unwrap_or (start_of (item i) size) (m.position s')) s' s''
          → g ≡ refused_at i f.cause
          → ItemsRead b rs stop (Err g) out out'' notes notes' × MovedTo m (left_at b stop rs) s s''
      upto-refused f g x size s'' out'' sized answer same moved told = by stop (left ∙ refused_here b (length out) (length notes) (take i rs) (item i) (drop (i + 1) rs) f (sym asked ∙ given_some _ x f answer) ∙ ap (λ (n : ℕ). Some (refused_at n f.cause)) so_many)
        where
          by : (q : Option ReaderFault) → q ≡ Some (refused_at i f.cause) → ItemsRead b rs q (Err g) out out'' notes notes' × MovedTo m (left_at b q rs) s s''
          by q e =
              rw e (
                record {
                  answer = ap Err told;
                  output = same ∙ u.bytes ∙ fronted_from_paste out (item_bytes b (take i rs)) at u.count;
                  noted = u.noted ∙ ap (λ (n : ℕ). places_from 0 b (take i rs) ++ drop n notes) (sym (length_places 0 b (take i rs) ∙ so_many));
                },
                moved_on m _ _ s s' s'' u.place
                    (moved_at m _ _ s' s'' (ap (λ (n : ℕ). unwrap_or (start_of (item i) n) (m.position s')) sized ∙ ap (unwrap_or (start_of (item i) (length b))) u.place.place) moved),
              )

      -- it is read
      pub room_more : (len : ℕ) → Ok len ≡ unless_fault (item_no (value_in m s') (length out') at (ltb i (length notes')) (item i)) (length (inside (value_in m s') (item i))) → at + len ≤ length out
      room_more len answer =
          let fits = item_placed (value_in m s') (length out') at _ (item i) (given_none _ _ _ answer) in
          omega (arith, fits.1, given_is _ _ _ answer, as_long)

      length_more : length (item_bytes b (take (i + 1) rs)) ≡ length (item_bytes b (take i rs)) + length (inside b (item i))
      length_more = ap length (bytes_more b rs i (FromStart 0 None) more) ∙ length-append (item_bytes b (take i rs)) (inside b (item i))

      copied : (len : ℕ) → len ≡ length (inside b (item i)) → paste out' at (inside b (item i)) (length (inside b (item i))) ≡ paste out 0 (item_bytes b (take (i + 1) rs)) (at + len)
      copied len is =
          let p = inside b (item i) in
          let done = item_bytes b (take i rs) in
          ap (λ (xs : Bytes). paste xs at p (length p)) u.bytes
          ∙ ap (λ (n : ℕ). paste (paste out 0 done at) n p (length p)) (sym (zero-add at))
          ∙ paste-paste out 0 done p at (length p) u.count refl (omega (arith, u.within))
          ∙ ap (λ (xs : Bytes). paste out 0 xs (at + length p)) (sym (bytes_more b rs i (FromStart 0 None) more))
          ∙ ap (λ (n : ℕ). paste out 0 (item_bytes b (take (i + 1) rs)) (at + n)) (sym is)

      noted_more : (len : ℕ) → len ≡ length (inside b (item i)) → i < length notes → set notes' i (placed at len) ≡ places_from 0 b (take (i + 1) rs) ++ drop (i + 1) notes
      noted_more len is h =
          let x = placed at len in
          let ns = places_from 0 b (take i rs) in
          let l : length ns ≡ i = length_places 0 b (take i rs) ∙ so_many in
          ap (λ (xs : List Note). set xs i x) (u.noted ∙ ap (λ (xs : List Note). ns ++ xs) (drop_more notes i x h))
          ∙ set_at ns (get_or notes i x) (drop (i + 1) notes) x i l
          ∙ sym (append_assoc ns (x ∷ []) (drop (i + 1) notes))
          ∙ ap (λ (xs : List Note). xs ++ drop (i + 1) notes) (ap (λ (y : Note). ns ++ y ∷ []) here ∙ sym (ap (places_from 0 b) (take_more rs i (FromStart 0 None) more) ∙ places_push 0 b (take i rs) (item i)))
        where
          here : placed at len ≡ placed (0 + length (item_bytes b (take i rs))) (length (inside b (item i)))
          here = ap (λ (n : ℕ). placed at n) is ∙ ap (λ (n : ℕ). placed n (length (inside b (item i)))) (u.count ∙ sym (zero-add (length (item_bytes b (take i rs)))))

      reached : (size len : ℕ) → size ≡ length b → len ≡ length (inside b (item i)) → unwrap_or (start_of (item i) size) 0 + len ≡ behind b (length b) (take (i + 1) rs)
      reached size len sized is =
          ap (λ (n : ℕ). unwrap_or (start_of (item i) n) 0 + len) sized
          ∙ ap (λ (n : ℕ). unwrap_or (start_of (item i) (length b)) 0 + n) is
          ∙ sym (ap (behind b (length b)) (take_more rs i (FromStart 0 None) more) ∙ behind_push b (length b) (take i rs) (item i))

      pub upto-more :
          (len size : ℕ) (s'' : R) (out'' : Bytes)
          → size ≡ length b
          → Ok len ≡ unless_fault (item_no (value_in m s') (length out') at (ltb i (length notes')) (item i)) (length (inside (value_in m s') (item i)))
          → out'' ≡ paste out' at (inside (value_in m s') (item i)) (length (inside (value_in m s') (item i)))
          → MovedTo m (unwrap_or (start_of (item i) size) 0 + len) s' s''
          → Upto m rs (i + 1) (at + len) s s'' out out'' notes (set notes' i (placed at len))
      upto-more len size s'' out'' sized answer put moved =
          let none = given_none _ _ _ answer in
          let is : len ≡ length (inside b (item i)) = given_is _ _ _ answer ∙ ap (λ (v : Bytes). length (inside v (item i))) same_value in
          let fits = item_placed b (length out) (length (item_bytes b (take i rs))) _ (item i) (sym asked ∙ none) in
          record {
            count = ap (λ (n : ℕ). at + n) is ∙ ap (λ (n : ℕ). n + length (inside b (item i))) u.count ∙ sym length_more;
            within = room_more len answer;
            bytes = put ∙ ap (λ (v : Bytes). paste out' at (inside v (item i)) (length (inside v (item i)))) same_value ∙ copied len is;
            noted = noted_more len is (omega (arith, so_many, ltb-true _ _ fits.0));
            place = moved_on m _ _ s s' s'' u.place (moved_at m _ _ s' s'' (reached size len sized is) moved);
            next =
                ap (λ (xs : List ByteRange). first_refused b (length out) (length notes) xs (drop (i + 1) rs)) (take_more rs i (FromStart 0 None) more)
                ∙ sym (left ∙ refused_next b (length out) (length notes) (take i rs) (item i) (drop (i + 1) rs) (sym asked ∙ none));
          }

-- a value that is there is still there
pub still_there : {R : Type 0} (m : Ghosts R) (s s' : R) → m.value s' ≡ m.value s → HasValue m s → HasValue m s'
still_there m s s' e h =
    record {
      there = e ∙ h.there ∙ ap (λ (v : Option Bytes). Some (bytes_of v)) (sym e);
      small = omega (arith, h.small, ap (λ (v : Option Bytes). length (bytes_of v)) e);
    }

-- the questions before the items, passed
opened : (v : Option Bytes) (rs : List ByteRange) (p size : ℕ) → length rs ≤ 64 → Ok size ≡ sought (sized v) p (End (pos 0)) → open_no v rs ≡ None
opened v rs p size h e = ap (λ (t : Bool). first_of (only_if t (refused cause.Limit)) (end_no v)) (le-ltb 64 (length rs) h) ∙ ended v e
  where
    ended : (w : Option Bytes) → Ok size ≡ sought (sized w) p (End (pos 0)) → end_no w ≡ None
    ended None e = let z : ◌≡◌ {A = ℕ} 0 1 = cc in absurd (omega arith)
    ended (Some x) e = go (ltb (length x) (2 ^ 63)) refl e
      where
        go : (t : Bool) → ltb (length x) (2 ^ 63) ≡ t → Ok size ≡ shifted_from (only_if t (length x)) (pos 0) → end_no (Some x) ≡ None
        go true q e = rw (lt-leb (2 ^ 63) (length x) (ltb-true (length x) (2 ^ 63) q))
        go false q e = let z : ◌≡◌ {A = ℕ} 0 1 = cc in absurd (omega arith)

-- the items, read by a reader that was moved to the end first
module _ {R : Type 0} (m : Ghosts R) (rs : List ByteRange) (s t u : R) (size q : ℕ) (few : length rs ≤ 64) (end : Ok size ≡ sought (sized (m.value s)) (m.position s) (End (pos 0))) (moved : MovedTo m q s t) where
  none : open_no (m.value s) rs ≡ None
  none = opened (m.value s) rs (m.position s) size few end

  same : value_in m t ≡ value_in m s
  same = ap bytes_of moved.value

  pub extracted :
      (r : Result ℕ ReaderFault) (out out' : Bytes) (notes notes' : List Note)
      → ItemsRead (value_in m t) rs (first_refused (value_in m t) (length out) (length notes) [] rs) r out out' notes notes'
      → Extracted (m.value s) rs r out out' notes notes'
  extracted r out out' notes notes' h = by (open_no (m.value s) rs) none
    where
      by : (o : Option ReaderFault) → o ≡ None → ReadOrNot o (value_in m s) rs r out out' notes notes'
      by None e = rw (← same) h
      by (Some f) e = let z : ◌≡◌ {A = ℕ} 0 1 = cc in absurd (omega arith)

  pub extracted-at :
      (space notes : ℕ)
      → MovedTo m (left_at (value_in m t) (first_refused (value_in m t) space notes [] rs) rs) t u
      → MovedTo m (extracted_at (m.value s) rs space notes (m.position s)) s u
  extracted-at space notes h =
      moved_on m _ _ s t u moved
      (moved_at m _ _ t u (ap (λ (b : Bytes). left_at b (first_refused b space notes [] rs) rs) same ∙ sym (ap (λ (o : Option ReaderFault). place_after o (value_in m s) rs space notes (m.position s)) none)) h)
