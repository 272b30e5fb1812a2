-- What calls of a script answer, and what they leave in the store.
use Rattle.std.specs.Prelude.{◌≡◌, ℕ, map, length, Some, None, Ok, Err, vec_items, Result, Vec}
use Rattle.std.specs.declared.alloc.Global.{Global}
use Rattle.keys.specs.Text.{Bytes}
use Rattle.keys.specs.declared.store_key.StoreKey.{StoreKey}
use Rattle.keys.specs.StoreKeys.{text, MadeKey}
use Rattle.keys.specs.declared.store_key.StoreKeyError.{StoreKeyError}
use Rattle.storage.specs.Contents.{Contents, found, keys_of}
use Rattle.storage.specs.Faults.{number, from_key}
use Rattle.storage.specs.declared.fault.Fault.{Fault}
use Rattle.storage.specs.declared.storage_sync.ReadableStorageTraits.{Ghosts}
use Rattle.script.specs.Commands.{Call, exporting, reading, listing}
use Rattle.atomic_write.specs.Exports.{Exported}
use Rattle.transcript.specs.declared.answer.Refusal.{Refusal}
use Rattle.transcript.specs.declared.answer.Answer.{Answer}
use Rattle.transcript.specs.declared.answer.Answer.TheVariants.{Done, Refused, Value, Absent, Keys}

-- what is printed of a fault: its number, its layer and its step
abbrev pub refusal_of : Fault → Refusal
refusal_of f = record { number = number f.cause; layer = f.depth; step = f.step }

-- what is printed of an export's answer
abbrev pub export_answer : ℕ → Result (Unit {0}) Fault → Answer
export_answer n (Ok u) = Done n
export_answer n (Err f) = Refused (refusal_of f)

-- an export of v under the label l, and the store before and after: the label is no key and nothing changed, or the adapter's answer
pub data ExportAnswered {S : Type 0} (m : Ghosts S) (l v : Bytes) (s s' : S) (a : Answer) : Type 0 where
  no_key : (e : StoreKeyError) → MadeKey l (Err e) → s' ≡ s → a ≡ Refused (refusal_of (from_key e)) → ExportAnswered m l v s s' a
  asked : (r : Result (Unit {0}) Fault) → Exported m l v s s' r → a ≡ export_answer (length v) r → ExportAnswered m l v s s' a

-- a reading of the label l in a store that holds c
pub data ReadAnswered (l : Bytes) (c : Contents) (a : Answer) : Type 0 where
  no_label : (e : StoreKeyError) → MadeKey l (Err e) → a ≡ Refused (refusal_of (from_key e)) → ReadAnswered l c a
  there : (v : Vec ℕ Global) → found l c ≡ Some (vec_items v) → a ≡ Value v → ReadAnswered l c a
  absent : found l c ≡ None → a ≡ Absent → ReadAnswered l c a

-- a listing of a store that holds c
pub data ListAnswered (c : Contents) (a : Answer) : Type 0 where
  listed : (ks : Vec StoreKey Global) → map text (vec_items ks) ≡ keys_of c → a ≡ Keys ks → ListAnswered c a

-- a call's answer, and the store before and after; readings and listings leave it as it was
abbrev pub Performed : {S : Type 0} → Ghosts S → Call → S → S → Answer → Type 0
Performed m (exporting l v) s s' a = ExportAnswered m l v s s' a
Performed m (reading l) s s' a = (s' ≡ s) × ReadAnswered l (m.contents s) a
Performed m listing s s' a = (s' ≡ s) × ListAnswered (m.contents s) a
