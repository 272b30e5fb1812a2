-- Erasing many keys, which lie as plain rows.
--   KeyRow                     a row whose text is a key
--   named ws k                 k is the text of one of the rows
--   RowRefused, RowErased      why the erasure of one row is refused; what it leaves
--   Stopped, ErasedMany        refused at a row, those before it being erased; the whole call
use Rattle.std.specs.Prelude.{◌≡◌, ◌≤◌, Bool, true, false, ◌||◌, List, [], ◌∷◌, ◌++◌, length, is_ok, IfErr, Some, Err, Result}
use Rattle.std.specs.List.{AllByRecursion}
use Rattle.keys.specs.Text.{Bytes, KeyText}
use Rattle.keys.specs.Rows.{row_text, AsKey}
use Rattle.keys.specs.declared.row.Row.{Row}
use Rattle.keys.specs.declared.store_key.StoreKeyError.{StoreKeyError}
use Rattle.storage.specs.Contents.{Contents, same, without}
use Rattle.storage.specs.Faults.{from_key, at_index}
use Rattle.storage.specs.Writes.{Verdict, erase}
use Rattle.storage.specs.declared.fault.Fault.{Fault}
use Rattle.storage.specs.declared.storage_sync.ReadableStorageTraits.{Ghosts}

abbrev pub KeyRow : Row → Type 0
KeyRow w = (w.len ≤ 120) × KeyText (row_text w)

unfoldable pub named : List Row → Bytes → Bool
named [] k = false
named (w ∷ ws) k = same k (row_text w) || named ws k

-- the row is no key, 3 or 1; or it is one, and the verdict refuses its erasure
pub data RowRefused (w : Row) (v : Verdict) : Fault → Type 0 where
  no_key : (e : StoreKeyError) → AsKey w (Err e) → RowRefused w v (from_key e)
  by_verdict : (f : Fault) → KeyRow w → v (erase (row_text w)) ≡ Some f → RowRefused w v f

-- every store: accepted, the row is a key, and is gone; a tidy store: refused, all is as it was, the verdict too
pub record RowErased {S A : Type 0} (m : Ghosts S) (w : Row) (r : Result A Fault) (s s' : S) : Type 0 where
  pub accepted : is_ok r ≡ true → KeyRow w × (m.contents s' ≡ without (λ j. same j (row_text w)) (m.contents s))
  pub tidily : m.tidy ≡ true → IfErr r (λ f. RowRefused w (m.verdict s') f × (m.contents s' ≡ m.contents s))

-- refused at a row, whose index the fault has: the rows before it are keys, and are erased
pub record Stopped (ws : List Row) (f : Fault) (c c' : Contents) (v' : Verdict) : Type 0 where
  pub before : List Row
  pub row : Row
  pub behind : List Row
  pub cause : Fault
  pub parts : ws ≡ before ++ (row ∷ behind)
  pub index : f ≡ at_index (length before) cause
  pub keys : AllByRecursion KeyRow before
  pub erased : c' ≡ without (named before) c
  pub refused : RowRefused row v' cause

-- every store: accepted, all rows are keys, and are gone; a tidy store: refused, it stopped at a row
pub record ErasedMany {S A : Type 0} (m : Ghosts S) (ws : List Row) (r : Result A Fault) (s s' : S) : Type 0 where
  pub accepted : is_ok r ≡ true → AllByRecursion KeyRow ws × (m.contents s' ≡ without (named ws) (m.contents s))
  pub tidily : m.tidy ≡ true → IfErr r (λ f. Stopped ws f (m.contents s) (m.contents s') (m.verdict s'))
