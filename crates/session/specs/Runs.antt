-- What a line of a script does to the store and to the transcript.
use Rattle.std.specs.Prelude.{◌≡◌, ℕ, [], ◌∷◌, ◌++◌, length}
use Rattle.keys.specs.Text.{Bytes}
use Rattle.storage.specs.Contents.{Contents, total}
use Rattle.storage.specs.declared.storage_sync.ReadableStorageTraits.{Ghosts}
use Rattle.script.specs.Commands.{Line, nothing, asks, wrong}
use Rattle.transcript.specs.Answers.{call_line, mistake_line, entry_line, total_line}
use Rattle.transcript.specs.declared.answer.Answer.{Answer}
use Rattle.session.specs.Calls.{Performed}

-- line n, with what it says, the store before and after, and the transcript before and after: a call is performed, and one line says its answer; any other line leaves the store as it was
abbrev pub LineRun : {S : Type 0} → Ghosts S → ℕ → Line → S → S → Bytes → Bytes → Type 0
LineRun m n nothing s s' o o' = (s' ≡ s) × (o' ≡ o)
LineRun m n (wrong w) s s' o o' = (s' ≡ s) × (o' ≡ o ++ mistake_line n w)
LineRun m n (asks c) s s' o o' = (a : Answer) × (Performed m c s s' a × (o' ≡ o ++ call_line n c a))

-- the lines of the keys that a store holds
unfoldable pub entries_text : Contents → Bytes
entries_text [] = []
entries_text (e ∷ es) = entry_line e.key (length e.value) ++ entries_text es

-- what a store holds: each key with the length of its value, and the total
unfoldable pub holds_text : Contents → Bytes
holds_text c = entries_text c ++ total_line (length c) (total c)
