-- What a line says, part by part.
use Rattle.std.proofs.Common.{◌≡◌, true, false, eqb, length, Option, Some, None, Result, Ok, Err, sym, ap, ◌∙◌}
use Rattle.std.specs.Option.{ok_or}
use Rattle.std.specs.Result.{MatchResult, IsOkAnd}
use Rattle.std.proofs.lemmas.Bool.{cond-true, cond-false}
use Rattle.script.specs.Words.{Bytes, trimmed, first_word, behind_word}
use Rattle.script.specs.Values.{bytes_of, value_said, value_read}
use Rattle.script.specs.declared.value.Value.{Value}
use Rattle.script.specs.declared.command.Command.{Command}
use Rattle.script.specs.declared.command.ParseError.{ParseError}
use Rattle.script.specs.declared.command.ParseError.TheVariants.{BadValue}
use Rattle.script.specs.Commands.{Call, Line, asks, wrong, nothing, no_label, no_value, extra_text, skipped, verb_of, label_of, label_says, value_line, value_says, finish_says, verb_says, line_says, line_of, command_line, ValueRead}

module _ (t u : Bytes) (e : u ≡ trimmed t) where
  is_left : eqb (length (trimmed t)) 0 ≡ eqb (length u) 0
  is_left = ap (λ v. eqb (length v) 0) (sym e)

  pub finish_done : (c : Call) → eqb (length u) 0 ≡ true → asks c ≡ finish_says c t
  unfolding finish_says
  finish_done c z = sym (cond-true (eqb (length (trimmed t)) 0) _ _ (is_left ∙ z))

  pub finish_extra : (c : Call) → eqb (length u) 0 ≡ false → wrong (extra_text u) ≡ finish_says c t
  unfolding finish_says
  finish_extra c s = ap (λ v. wrong (extra_text v)) e ∙ sym (cond-false (eqb (length (trimmed t)) 0) _ _ (is_left ∙ s))

  pub value_missing : (l : Bytes) → eqb (length u) 0 ≡ true → value_says l t ≡ wrong no_value
  unfolding value_says
  value_missing l z = cond-true (eqb (length (trimmed t)) 0) _ _ (is_left ∙ z)

  pub value_there : (l : Bytes) (o : Option Bytes) → eqb (length u) 0 ≡ false → o ≡ value_said u → value_says l t ≡ value_line l o
  unfolding value_says
  value_there l o s p = cond-false (eqb (length (trimmed t)) 0) _ _ (is_left ∙ s) ∙ ap (value_line l) (ap value_said (sym e) ∙ sym p)

  pub value_read_is : (o : Option Value) → eqb (length u) 0 ≡ false → value_read o ≡ value_said u → ValueRead t (ok_or o BadValue)
  value_read_is None s p = λ l. value_there l None s p
  value_read_is (Some v) s p = λ l. value_there l (Some (bytes_of v)) s p

pub label_there : (t l r : Bytes) (f : Bytes → Bytes → Line) → eqb (length (first_word t)) 0 ≡ false → l ≡ label_of (first_word t) → r ≡ behind_word t → label_says t f ≡ f l r
unfolding label_says
label_there t l r f s p q = cond-false (eqb (length (first_word t)) 0) _ _ s ∙ (ap (λ m. f m (behind_word t)) (sym p) ∙ ap (λ m. f l m) (sym q))

pub label_missing : (t : Bytes) (f : Bytes → Bytes → Line) → eqb (length (first_word t)) 0 ≡ true → label_says t f ≡ wrong no_label
unfolding label_says
label_missing t f z = cond-true (eqb (length (first_word t)) 0) _ _ z

pub line_skipped : (t w : Bytes) → w ≡ first_word t → skipped w ≡ true → nothing ≡ line_says t
unfolding line_says
line_skipped t w p e = sym (cond-true (skipped (first_word t)) _ _ (ap skipped (sym p) ∙ e))

pub line_asks : (t w r : Bytes) → w ≡ first_word t → r ≡ behind_word t → skipped w ≡ false → verb_says (verb_of w) w r ≡ line_says t
unfolding line_says
line_asks t w r p q e = ap (λ v. verb_says (verb_of v) v r) p ∙ (ap (λ v. verb_says (verb_of (first_word t)) (first_word t) v) q ∙ sym (cond-false (skipped (first_word t)) _ _ (ap skipped (sym p) ∙ e)))

-- what `map(Some)` leaves of a command
pub mapped_line : (r : Result Command ParseError) (s : Result (Option Command) ParseError) (P : Command → Option Command → Type 0) → ((c : Command) (o : Option Command) → P c o → o ≡ Some c) → MatchResult r (λ c. IsOkAnd s (P c)) (λ e. s ≡ Err e) → line_of s ≡ command_line r
mapped_line (Ok c) (Ok o) P h m = ap (λ (x : Option Command). line_of (Ok x)) (h c o m)
mapped_line (Ok c) (Err e) P h m = absurd m
mapped_line (Err e) s P h m = ap line_of m
