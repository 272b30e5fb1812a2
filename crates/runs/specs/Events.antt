-- Calls with their answers, and runs of them.
--   Ask, Reading               what a call asks, with its bytes
--   Reply, Readout             what an answer says, with the bytes in its buffers
--   Event, Run                 a call with its answer; a list of these, oldest first
--   done, refused_at n         the answer of a write: done; a fault of the step n
--   exports t s                s exports a label that passes the test t
--   making s old               the bytes of the export s, of a label that holds old
--   finishing t e, interrupting t e, beginning t e
--                              e is an export of a label that passes t: finished; begun and not finished; begun
--   finishes k e, interrupts k e, begins k e
--                              the same of the label k
--   erases k e                 e erased the key k
--   Every P h, Split h before e since
--                              each event of h has P; e is an event of h, after those of before and before those of since
use Rattle.std.specs.Prelude.{◌≡◌, ℕ, Bool, true, false, ◌&&◌, ◌||◌, List, [], ◌∷◌, ◌++◌, take, Ok, Err, vec_items, Option, Result, ◌==◌}
use Rattle.std.specs.Option.{option_map}
use Rattle.keys.specs.Text.{Bytes}
use Rattle.keys.specs.StoreKeys.{text}
use Rattle.keys.specs.StorePrefixes.{prefix_text}
use Rattle.keys.specs.declared.row.Row.{Row}
use Rattle.ranges.specs.declared.byte_range.ByteRange.{ByteRange}
use Rattle.extraction.specs.Notes.{Note}
use Rattle.patches.specs.Patches.{laid_all}
use Rattle.patches.specs.declared.Patch.{Patch}
use Rattle.storage.specs.Contents.{same, under, bytes_of}
use Rattle.storage.specs.Erasures.{named}
use Rattle.storage.specs.declared.fault.Fault.{Fault}
use Rattle.listings.specs.declared.listing.StoreKeysPrefixes.{StoreKeysPrefixes}
use Rattle.runs.specs.declared.call.Call.{Call}
use Rattle.runs.specs.declared.call.Call.TheVariants as call
use Rattle.runs.specs.declared.call.Answer.{Answer}
use Rattle.runs.specs.declared.call.Answer.TheVariants as answer

-- a reading or listing; a number is the length of a buffer that it is passed, but for key_at the place of the key
pub data Reading : Type 0 where
  size_key : Bytes → Reading
  get : Bytes → ℕ → Reading
  get_partial : Bytes → ByteRange → ℕ → Reading
  get_partial_many : Bytes → List ByteRange → ℕ → ℕ → Reading
  key_at : ℕ → Reading
  list : ℕ → Reading
  list_prefix : Bytes → ℕ → Reading
  list_dir : Bytes → ℕ → ℕ → Reading
  size_prefix : Bytes → Reading
  size : Reading

-- patch k ps d n lays the patches ps, whose bytes lie in d, on the value under k, with a work buffer of n bytes
pub data Ask : Type 0 where
  set : Bytes → Bytes → Ask
  patch : Bytes → List Patch → Bytes → ℕ → Ask
  erase : Bytes → Ask
  erase_many : List Row → Ask
  erase_prefix : Bytes → Ask
  power_on : Ask
  read : Reading → Ask

abbrev pub asked : Call → Ask
asked (call.Set k v) = set (text k) (vec_items v)
asked (call.SetPartialMany k ps d n) = patch (text k) (vec_items ps) (vec_items d) n
asked (call.Erase k) = erase (text k)
asked (call.EraseMany rs) = erase_many (vec_items rs)
asked (call.ErasePrefix p) = erase_prefix (prefix_text p)
asked call.PowerOn = power_on
asked (call.SizeKey k) = read (size_key (text k))
asked (call.Get k n) = read (get (text k) n)
asked (call.GetPartial k r n) = read (get_partial (text k) r n)
asked (call.GetPartialMany k rs n m) = read (get_partial_many (text k) (vec_items rs) n m)
asked (call.KeyAt i) = read (key_at i)
asked (call.List n) = read (list n)
asked (call.ListPrefix p n) = read (list_prefix (prefix_text p) n)
asked (call.ListDir p n m) = read (list_dir (prefix_text p) n m)
asked (call.SizePrefix p) = read (size_prefix (prefix_text p))
asked call.Size = read size

-- what a reading or listing says
pub data Readout : Type 0 where
  size_is : Option ℕ → Readout
  total_is : ℕ → Readout
  key_is : Option Bytes → Readout
  bytes_read : Result (Option ℕ) Fault → Bytes → Readout
  ranges_read : Result (Option ℕ) Fault → Bytes → List Note → Readout
  rows_listed : Result ℕ Fault → List Row → Readout
  dir_listed : Result StoreKeysPrefixes Fault → List Row → List Row → Readout

pub data Reply : Type 0 where
  wrote : Result (Unit {0}) Fault → Reply
  patched : Result (Unit {0}) Fault → Bytes → Reply
  told : Readout → Reply

abbrev pub said : Answer → Reply
said (answer.Wrote r) = wrote r
said (answer.Patched r work) = patched r (vec_items work)
said (answer.Size n) = told (size_is n)
said (answer.Total n) = told (total_is n)
said (answer.Key k) = told (key_is (option_map text k))
said (answer.Read r out) = told (bytes_read r (vec_items out))
said (answer.ReadMany r out notes) = told (ranges_read r (vec_items out) (vec_items notes))
said (answer.Listed r rows) = told (rows_listed r (vec_items rows))
said (answer.ListedDir r keys prefixes) = told (dir_listed r (vec_items keys) (vec_items prefixes))

pub record Event : Type 0 where
  pub ask : Ask
  pub reply : Reply

abbrev pub Run : Type 0
Run = List Event

-- the calls that were answered, each with its answer
unfoldable pub events : List Call → List Answer → Run
events [] rs = []
events (c ∷ cs) [] = []
events (c ∷ cs) (r ∷ rs) = record { ask = asked c; reply = said r } ∷ events cs rs

abbrev pub accepted : Result (Unit {0}) Fault → Bool
accepted (Ok u) = true
accepted (Err f) = false

abbrev pub fault_at : ℕ → Result (Unit {0}) Fault → Bool
fault_at n (Ok u) = false
fault_at n (Err f) = f.step == n

abbrev pub done : Reply → Bool
done (wrote r) = accepted r
done (patched r work) = accepted r
done (told x) = false

abbrev pub refused_at : ℕ → Reply → Bool
refused_at n (wrote r) = fault_at n r
refused_at n (patched r work) = fault_at n r
refused_at n (told x) = false

abbrev pub exports : (Bytes → Bool) → Ask → Bool
exports t (set k v) = t k
exports t (patch k ps d n) = t k
exports t (erase k) = false
exports t (erase_many rs) = false
exports t (erase_prefix p) = false
exports t power_on = false
exports t (read q) = false

-- the value, or what the patches make of the old bytes, of none where there are none
abbrev pub making : Ask → Option Bytes → Bytes
making (set k v) old = v
making (patch k ps d n) old = laid_all d ps (bytes_of old)
making (erase k) old = []
making (erase_many rs) old = []
making (erase_prefix p) old = []
making power_on old = []
making (read q) old = []

-- an export answers done: it is finished
abbrev pub finishing : (Bytes → Bool) → Event → Bool
finishing t e = done e.reply && exports t e.ask

-- it answers a fault of step 2: it is begun, and not finished
abbrev pub interrupting : (Bytes → Bool) → Event → Bool
interrupting t e = refused_at 2 e.reply && exports t e.ask

abbrev pub beginning : (Bytes → Bool) → Event → Bool
beginning t e = finishing t e || interrupting t e

abbrev pub finishes : Bytes → Event → Bool
finishes k e = finishing (same k) e

abbrev pub interrupts : Bytes → Event → Bool
interrupts k e = interrupting (same k) e

abbrev pub begins : Bytes → Event → Bool
begins k e = beginning (same k) e

-- the rows that an answered erase_many erased: all that it names, or those before the refused one
abbrev pub reached : Reply → List Row → List Row
reached (wrote (Ok u)) rs = rs
reached (wrote (Err f)) rs = take f.index rs
reached (patched r work) rs = []
reached (told x) rs = []

abbrev pub erased_by : Ask → Reply → Bytes → Bool
erased_by (set j v) a k = false
erased_by (patch j ps d n) a k = false
erased_by (erase j) a k = done a && same k j
erased_by (erase_many rs) a k = named (reached a rs) k
erased_by (erase_prefix p) a k = done a && under p k
erased_by power_on a k = false
erased_by (read q) a k = false

abbrev pub erases : Bytes → Event → Bool
erases k e = erased_by e.ask e.reply k

pub data Every (P : Event → Type 0) : Run → Type 0 where
  none : Every P []
  also : {e : Event} {h : Run} → P e → Every P h → Every P (e ∷ h)

pub record Split (h before : Run) (e : Event) (since : Run) : Type 0 where
  pub parts : h ≡ before ++ (e ∷ since)
