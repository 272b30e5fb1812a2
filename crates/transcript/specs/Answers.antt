-- The lines that say how calls were answered.
use Rattle.std.specs.Prelude.{ℕ, cond, List, [], ◌∷◌, ◌++◌, length, vec_items, codes, decimal, ◌==◌}
use Rattle.std.specs.List.{flat_map}
use Rattle.keys.specs.StoreKeys.{text}
use Rattle.keys.specs.declared.store_key.StoreKey.{StoreKey}
use Rattle.script.specs.Words.{Bytes}
use Rattle.script.specs.Commands.{Call, exporting, reading, listing, Mistake, unknown_word, no_label, no_value, bad_value, extra_text}
use Rattle.transcript.specs.Written.{label_text, value_text}
use Rattle.transcript.specs.declared.answer.Refusal.{Refusal}
use Rattle.transcript.specs.declared.answer.Answer.{Answer}
use Rattle.transcript.specs.declared.answer.Answer.TheVariants.{Done, Refused, Value, Absent, Keys}

-- what is wrong with a line, with the bytes that it is about
abbrev pub mistake_text : Mistake → Bytes
mistake_text (unknown_word w) = codes "unknown word " ++ w
mistake_text no_label = codes "no label"
mistake_text no_value = codes "no value"
mistake_text bad_value = codes "bad value"
mistake_text (extra_text t) = codes "extra text " ++ t

-- a number and what is counted, with an `s` unless there is one
abbrev pub count_text : ℕ → Bytes → Bytes
count_text n what = cond (n == 1) (decimal n ++ (32 ∷ what)) (decimal n ++ (32 ∷ (what ++ (115 ∷ []))))

-- a refusal: its number, its layer and its step
abbrev pub refusal_text : Refusal → Bytes
refusal_text r = codes "refused " ++ (decimal r.number ++ (codes ", layer " ++ (decimal r.layer ++ (codes ", step " ++ decimal r.step))))

-- a call, less its value
abbrev pub head_text : Call → Bytes
head_text (exporting l v) = codes "export " ++ label_text l
head_text (reading l) = codes "read " ++ label_text l
head_text listing = codes "list"

-- a space and a key
abbrev pub key_text : StoreKey → Bytes
key_text k = 32 ∷ label_text (text k)

-- how many bytes were exported
abbrev pub done_text : ℕ → Bytes
done_text n = codes "done, " ++ count_text n (codes "byte")

-- a value with the number of its bytes
abbrev pub sized_text : Bytes → Bytes
sized_text v = count_text (length v) (codes "byte") ++ (32 ∷ value_text v)

-- keys with their number
abbrev pub counted_text : List StoreKey → Bytes
counted_text ks = count_text (length ks) (codes "key") ++ flat_map key_text ks

-- how a call was answered
abbrev pub answer_text : Answer → Bytes
answer_text (Done n) = done_text n
answer_text (Refused r) = refusal_text r
answer_text (Value v) = sized_text (vec_items v)
answer_text Absent = codes "absent"
answer_text (Keys ks) = counted_text (vec_items ks)

-- the line for a call: the number of its line, the call, its answer
unfoldable pub call_line : ℕ → Call → Answer → Bytes
call_line n c a = decimal n ++ (32 ∷ (head_text c ++ (codes ": " ++ (answer_text a ++ (10 ∷ [])))))

-- the line for a line that is no call
unfoldable pub mistake_line : ℕ → Mistake → Bytes
mistake_line n m = codes "line " ++ (decimal n ++ (codes ": " ++ (mistake_text m ++ (10 ∷ []))))

-- the line for a key that the store holds, with the length of its value
unfoldable pub entry_line : Bytes → ℕ → Bytes
entry_line k n = label_text k ++ (32 ∷ (decimal n ++ (10 ∷ [])))

-- the last line: how many keys the store holds, and how many bytes in all
unfoldable pub total_line : ℕ → ℕ → Bytes
total_line k n = codes "total " ++ (count_text k (codes "key") ++ (codes ", " ++ (count_text n (codes "byte") ++ (10 ∷ []))))
