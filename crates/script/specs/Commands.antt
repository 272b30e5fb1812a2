-- What a line of a script says: nothing, a call, or a mistake.
use Rattle.std.specs.Prelude.{◌≡◌, Bool, true, false, cond, ◌||◌, [], ◌∷◌, length, Some, None, Ok, Err, codes, Option, Result, ◌==◌, slice_index}
use Rattle.std.specs.Borrow.{Bor}
use Rattle.std.specs.Str.{bytes_eq}
use Rattle.script.specs.Words.{Bytes, trimmed, first_word, behind_word}
use Rattle.script.specs.Values.{bytes_of, value_said}
use Rattle.script.specs.declared.value.Value.{Value}
use Rattle.script.specs.declared.command.Command.{Command}
use Rattle.script.specs.declared.command.Command.TheVariants as command
use Rattle.script.specs.declared.command.ParseError.{ParseError}
use Rattle.script.specs.declared.command.ParseError.TheVariants.{UnknownWord, NoLabel, NoValue, BadValue, ExtraText}
use Rattle.script.specs.declared.command.Verb.{Verb}
use Rattle.script.specs.declared.command.Verb.TheVariants as verb

-- a call of the box, with the bytes of its label and value
pub data Call : Type 0 where
  exporting : Bytes → Bytes → Call
  reading : Bytes → Call
  listing : Call

-- what is wrong with a line
pub data Mistake : Type 0 where
  unknown_word : Bytes → Mistake
  no_label : Mistake
  no_value : Mistake
  bad_value : Mistake
  extra_text : Bytes → Mistake

-- what a line says
pub data Line : Type 0 where
  nothing : Line
  asks : Call → Line
  wrong : Mistake → Line

-- the call that a command is
abbrev pub call_of : Command → Call
call_of (command.Export l v) = exporting l.now (bytes_of v)
call_of (command.Read l) = reading l.now
call_of command.List = listing

-- the mistake that an error is
abbrev pub mistake_of : ParseError → Mistake
mistake_of (UnknownWord w) = unknown_word w.now
mistake_of NoLabel = no_label
mistake_of NoValue = no_value
mistake_of BadValue = bad_value
mistake_of (ExtraText t) = extra_text t.now

-- what is wrong with a line, in words
abbrev pub mistake_name : Mistake → Bytes
mistake_name (unknown_word w) = codes "unknown word"
mistake_name no_label = codes "no label"
mistake_name no_value = codes "no value"
mistake_name bad_value = codes "bad value"
mistake_name (extra_text t) = codes "extra text"

abbrev pub command_line : Result Command ParseError → Line
command_line (Ok c) = asks (call_of c)
command_line (Err e) = wrong (mistake_of e)

-- what an answer of `parse` says of a line
abbrev pub line_of : Result (Option Command) ParseError → Line
line_of (Ok None) = nothing
line_of (Ok (Some c)) = asks (call_of c)
line_of (Err e) = wrong (mistake_of e)

-- the first word of a blank line or a remark
abbrev pub skipped : Bytes → Bool
skipped w = length w == 0 || slice_index w 0 == 35

-- the call that a word names
abbrev pub verb_of : Bytes → Option Verb
verb_of w = cond (bytes_eq w (codes "export")) (Some verb.Export) (cond (bytes_eq w (codes "read")) (Some verb.Read) (cond (bytes_eq w (codes "list")) (Some verb.List) None))

-- the label that a word stands for: two quotes are the empty one
abbrev pub label_of : Bytes → Bytes
label_of w = cond (bytes_eq w (34 ∷ 34 ∷ [])) [] w

-- a call that has a label, and what stands behind the label
unfoldable pub label_says : Bytes → (Bytes → Bytes → Line) → Line
label_says t f = cond (length (first_word t) == 0) (wrong no_label) (f (label_of (first_word t)) (behind_word t))

abbrev pub value_line : Bytes → Option Bytes → Line
value_line l None = wrong bad_value
value_line l (Some v) = asks (exporting l v)

-- an export's value
unfoldable pub value_says : Bytes → Bytes → Line
value_says l t = cond (length (trimmed t) == 0) (wrong no_value) (value_line l (value_said (trimmed t)))

-- a call with nothing behind it
unfoldable pub finish_says : Call → Bytes → Line
finish_says c t = cond (length (trimmed t) == 0) (asks c) (wrong (extra_text (trimmed t)))

abbrev pub export_says : Bytes → Line
export_says t = label_says t value_says

abbrev pub read_says : Bytes → Line
read_says t = label_says t (λ l u. finish_says (reading l) u)

-- what the rest of a line says behind its first word
abbrev pub verb_says : Option Verb → Bytes → Bytes → Line
verb_says None w t = wrong (unknown_word w)
verb_says (Some verb.Export) w t = export_says t
verb_says (Some verb.Read) w t = read_says t
verb_says (Some verb.List) w t = finish_says listing t

-- what a line says
unfoldable pub line_says : Bytes → Line
line_says t = cond (skipped (first_word t)) nothing (verb_says (verb_of (first_word t)) (first_word t) (behind_word t))

-- the label that a text begins with and the rest, or that there is none
abbrev pub LabelRead : Bytes → Result (Bor Bytes × Bor Bytes) ParseError → Type 0
LabelRead t (Ok p) = ((length (first_word t) == 0) ≡ false) × (p.0.now ≡ label_of (first_word t)) × (p.1.now ≡ behind_word t)
LabelRead t (Err e) = ((length (first_word t) == 0) ≡ true) × (mistake_of e ≡ no_label)

-- the value that a text writes, or what is wrong with it
abbrev pub ValueRead : Bytes → Result Value ParseError → Type 0
ValueRead t (Ok v) = (l : Bytes) → value_says l t ≡ asks (exporting l (bytes_of v))
ValueRead t (Err e) = (l : Bytes) → value_says l t ≡ wrong (mistake_of e)
