-- What a call changes of a reader: its position, and nothing else.
--   MovedTo m p s s'           s' is s at position p
--   value_in m s               the bytes of the reader's value, none if it is absent
--   HasValue m s               the value is there, and every place in it can be sought
use Rattle.std.specs.Prelude.{◌≡◌, ℕ, ◌^◌, ◌<◌, length, Some}
use Rattle.keys.specs.Text.{Bytes}
use Rattle.storage.specs.Contents.{bytes_of}
use Rattle.readers.specs.declared.reader.Reader.{Ghosts}

pub record MovedTo {R : Type 0} (m : Ghosts R) (p : ℕ) (s s' : R) : Type 0 where
  pub place : m.position s' ≡ p
  pub value : m.value s' ≡ m.value s
  pub rest : (q : ℕ) → m.at s' q ≡ m.at s q

abbrev pub value_in : {R : Type 0} → Ghosts R → R → Bytes
value_in m s = bytes_of (m.value s)

pub record HasValue {R : Type 0} (m : Ghosts R) (s : R) : Type 0 where
  pub there : m.value s ≡ Some (value_in m s)
  pub small : length (value_in m s) < 2 ^ 63
