-- The laws of runs.
--   PlainCalls cs              no exported label ends in ".tmp"
--   Holds k h o                what the label k holds after the run h: the bytes o, or nothing
--   Stands k h b               the temporary of k stands after h, with the bytes b
--   begun_in, finished_in, cleared_in, standing_in
--                              how many exports were begun, finished, cleared; how many temporaries stand; of those whose temporary passes a test
--   Lawful h c                 the first two laws, of the run h that left the contents c
--   touches p s                the call touches the prefix p
--   touching p h               the calls of h that touch p, with their answers; an erase_many as the erasures that it made
--   Alike p h g                the same calls of the two runs touch p, in the same order
--   Unrefused h                the store below refused no write
--   SameOn p h g c d           the runs h and g, which left c and d, left the same under p, and answered the same
use Rattle.std.specs.Prelude.{◌≡◌, ℕ, ◌+◌, Bool, true, false, not, ◌&&◌, ◌||◌, List, [], ◌∷◌, map, Some, None, Ok, Err, filter, Option, Result, ◌==◌}
use Rattle.std.specs.List.{flat_map}
use Rattle.keys.specs.Text.{Bytes}
use Rattle.keys.specs.Rows.{row_text}
use Rattle.keys.specs.declared.row.Row.{Row}
use Rattle.storage.specs.Contents.{Contents, found, under}
use Rattle.storage.specs.declared.fault.Fault.{Fault}
use Rattle.atomic_write.specs.Exports.{temporary}
use Rattle.runs.specs.declared.call.Call.{Call}
use Rattle.runs.specs.Labels.{is_temporary, Plain, within}
use Rattle.runs.specs.Events.{Ask, set, patch, erase, erase_many, erase_prefix, power_on, read, Reading, size_key, get, get_partial, get_partial_many, key_at, list, list_prefix, list_dir, size_prefix, size, asked, Reply, wrote, patched, told, Event, Run, making, finishing, interrupting, beginning, finishes, interrupts, begins, reached, erases, Every, Split}

abbrev pub PlainAsk : Ask → Type 0
PlainAsk (set k v) = Plain k
PlainAsk (patch k ps d n) = Plain k
PlainAsk (erase k) = Unit {0}
PlainAsk (erase_many rs) = Unit {0}
PlainAsk (erase_prefix p) = Unit {0}
PlainAsk power_on = Unit {0}
PlainAsk (read q) = Unit {0}

unfoldable pub PlainCalls : List Call → Type 0
PlainCalls [] = Unit {0}
PlainCalls (c ∷ cs) = PlainAsk (asked c) × PlainCalls cs

-- the event neither finished an export of k nor erased k
pub record Leaves (k : Bytes) (e : Event) : Type 0 where
  pub unfinished : finishes k e ≡ false
  pub kept : erases k e ≡ false

-- 1. the bytes of its last finished export, where nothing erased it since; an export's bytes are its value, or what its patches make of what this law gives the label before it
--    nothing, where none finished, or none since it was erased
pub data Holds (k : Bytes) : Run → Option Bytes → Type 0 where
  finished :
      {h before since : Run} {e : Event} {old : Option Bytes}
      → Split h before e since
      → finishes k e ≡ true
      → Every (Leaves k) since
      → Holds k before old
      → Holds k h (Some (making e.ask old))
  never : {h : Run} → Every (λ e. finishes k e ≡ false) h → Holds k h None
  erased :
      {h before since : Run} {e : Event}
      → Split h before e since
      → erases k e ≡ true
      → Every (λ x. finishes k x ≡ false) since
      → Holds k h None

-- 2. the last begun export of k is unfinished, b are its bytes, and nothing erased the temporary since
pub record Stands (k : Bytes) (h : Run) (b : Bytes) : Type 0 where
  pub before : Run
  pub last : Event
  pub since : Run
  pub held : Option Bytes
  pub split : Split h before last since
  pub unfinished : interrupts k last ≡ true
  pub no_later : Every (λ e. begins k e ≡ false) since
  pub not_erased : Every (λ e. erases (temporary k) e ≡ false) since
  pub holds : Holds k before held
  pub makes : b ≡ making last.ask held

abbrev pub one : Bool → ℕ
one true = 1
one false = 0

-- begun exports whose temporary passes t
unfoldable pub begun_in : (Bytes → Bool) → Run → ℕ
begun_in t [] = 0
begun_in t (e ∷ h) = one (beginning (λ k. t (temporary k)) e) + begun_in t h

unfoldable pub finished_in : (Bytes → Bool) → Run → ℕ
finished_in t [] = 0
finished_in t (e ∷ h) = one (finishing (λ k. t (temporary k)) e) + finished_in t h

-- some event of the run erased the key
unfoldable pub erased_in : Run → Bytes → Bool
erased_in [] k = false
erased_in (e ∷ h) k = erases k e || erased_in h k

-- unfinished exports whose temporary was erased later
unfoldable pub cleared_in : (Bytes → Bool) → Run → ℕ
cleared_in t [] = 0
cleared_in t (e ∷ later) = one (interrupting (λ k. t (temporary k) && erased_in later (temporary k)) e) + cleared_in t later

-- stored keys that end in ".tmp"
unfoldable pub standing_in : (Bytes → Bool) → Contents → ℕ
standing_in t [] = 0
standing_in t (e ∷ c) = one (is_temporary e.key && t e.key) + standing_in t c

abbrev pub any : Bytes → Bool
any k = true

-- the first two laws, of the run h that left c
pub record Lawful (h : Run) (c : Contents) : Type 0 where
  pub labels : (k : Bytes) → Plain k → (o : Option Bytes) → (found k c ≡ o → Holds k h o) × (Holds k h o → found k c ≡ o)
  pub temporaries : (k b : Bytes) → (found (temporary k) c ≡ Some b → Stands k h b) × (Stands k h b → found (temporary k) c ≡ Some b)
  pub counts : begun_in any h ≡ finished_in any h + standing_in any c + cleared_in any h
  -- and so of the exports whose temporaries are in any set
  pub counts_in : (t : Bytes → Bool) → begun_in t h ≡ finished_in t h + standing_in t c + cleared_in t h

-- the key or prefix that a reading is about: a listing, the size or the n-th key of all, root
abbrev pub place_of : Reading → Bytes
place_of (size_key k) = k
place_of (get k n) = k
place_of (get_partial k r n) = k
place_of (get_partial_many k rs n m) = k
place_of (key_at i) = []
place_of (list n) = []
place_of (list_prefix p n) = p
place_of (list_dir p n m) = p
place_of (size_prefix p) = p
place_of size = []

-- 3. its key or prefix begins with p, or it erases a prefix that p begins with; power-on has neither, and an erase_many counts as the erasures that it makes
abbrev pub touches : Bytes → Ask → Bool
touches p (set k v) = under p k
touches p (patch k ps d n) = under p k
touches p (erase k) = under p k
touches p (erase_many rs) = false
touches p (erase_prefix q) = under p q || under q p
touches p power_on = false
touches p (read q) = under p (place_of q)

-- the erasures of these rows
abbrev pub erasures : List Row → Run
erasures ws = map (λ w. record { ask = erase (row_text w); reply = wrote (Ok tt) }) ws

abbrev pub counts_as : Ask → Reply → Run
counts_as (set k v) a = record { ask = set k v; reply = a } ∷ []
counts_as (patch k ps d n) a = record { ask = patch k ps d n; reply = a } ∷ []
counts_as (erase k) a = record { ask = erase k; reply = a } ∷ []
counts_as (erase_many rs) a = erasures (reached a rs)
counts_as (erase_prefix p) a = record { ask = erase_prefix p; reply = a } ∷ []
counts_as power_on a = record { ask = power_on; reply = a } ∷ []
counts_as (read q) a = record { ask = read q; reply = a } ∷ []

unfoldable pub touching : Bytes → Run → Run
touching p h = filter (λ e. touches p e.ask) (flat_map (λ e. counts_as e.ask e.reply) h)

abbrev pub asks_of : Run → List Ask
asks_of h = map (λ e. e.ask) h

abbrev pub Alike : Bytes → Run → Run → Type 0
Alike p h g = asks_of (touching p h) ≡ asks_of (touching p g)

abbrev pub deep : Result (Unit {0}) Fault → Bool
deep (Ok u) = false
deep (Err f) = not (f.depth == 0)

-- the store below refused a write: its fault has depth 1 or more
abbrev pub refused_below : Reply → Bool
refused_below (wrote r) = deep r
refused_below (patched r work) = deep r
refused_below (told x) = false

abbrev pub Unrefused : Run → Type 0
Unrefused h = Every (λ e. refused_below e.reply ≡ false) h

-- the same labels with the same bytes; the same answers to all calls that touch p, so to those whose key or prefix begins with it
pub record SameOn (p : Bytes) (h g : Run) (c d : Contents) : Type 0 where
  pub labels : within p c ≡ within p d
  pub answers : touching p h ≡ touching p g
