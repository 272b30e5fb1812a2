-- A call that is written is read back as the same call.
use Rattle.std.proofs.Common.{◌≡◌, ℕ, ◌+◌, ◌-◌, ◌/◌, ◌<◌, true, false, cond, eqb, [], ◌∷◌, ◌++◌, length, get_or, take, drop, Some, codes, sym, refl, ap, append_assoc, ◌∙◌, subst, ⊎_elim, arith}
use Rattle.std.specs.List.{prefix_len, suffix_len, AllByRecursion}
use Rattle.std.specs.Str.{bytes_eq}
use Rattle.std.proofs.ByRecursion.{All-get_or}
use Rattle.std.proofs.lemmas.Slice.Eq.{bytes_eq-Decides}
use Rattle.std.proofs.lemmas.List.{take_at, take_all, drop_at, drop_all, get_or_at, length_push}
use Rattle.std.proofs.lemmas.List.Sums.{suffix_len-take_no}
use Rattle.std.proofs.lemmas.Bool.{cases_Bool, ne_eqb, cond-true, cond-false, cond_both, not-true}
use Rattle.std.proofs.lemmas.Bool.Decides.{nat_tests}
use Rattle.script.specs.Words.{Bytes, blank, plain, trimmed_front, trimmed_back, trimmed, first_word, behind_word}
use Rattle.script.specs.Hex.{digit_of, hex}
use Rattle.script.specs.Values.{quote, hex_mark, value_said}
use Rattle.script.specs.Commands.{exporting, reading, listing, Line, asks, label_of, value_says, finish_says, line_says}
use Rattle.transcript.specs.Written.{printable, value_text, label_text, written, LabelFits}
use Rattle.script.proofs.Lines.{value_there, label_there, line_asks, finish_done}

-- words

leading_plain : (w u : Bytes) → AllByRecursion (λ b. plain b ≡ true) w → prefix_len plain (w ++ (32 ∷ u)) ≡ length w
leading_plain [] u h = refl
leading_plain (x ∷ w) u (p, q) = cond-true (plain x) _ _ p ∙ omega (arith, leading_plain w u q)

leading_plain_end : (w : Bytes) → AllByRecursion (λ b. plain b ≡ true) w → prefix_len plain w ≡ length w
leading_plain_end [] h = refl
leading_plain_end (x ∷ w) (p, q) = cond-true (plain x) _ _ p ∙ omega (arith, leading_plain_end w q)

front_at : (x : ℕ) (r : Bytes) → plain x ≡ true → trimmed_front (32 ∷ x ∷ r) ≡ x ∷ r
front_at x r p = ap (λ b. drop (1 + cond b (1 + prefix_len blank r) 0) (32 ∷ x ∷ r)) (not-true (blank x) p)

word_then : (w u : Bytes) → AllByRecursion (λ b. plain b ≡ true) w → 0 < length w → first_word (32 ∷ (w ++ (32 ∷ u))) ≡ w
unfolding first_word
word_then [] u h s = absurd (omega arith)
word_then (x ∷ v) u h s = ap (λ f. take (prefix_len plain f) f) (front_at x (v ++ (32 ∷ u)) h.0) ∙ (ap (λ n. take n ((x ∷ v) ++ (32 ∷ u))) (leading_plain (x ∷ v) u h) ∙ take_at (x ∷ v) (32 ∷ u) (length (x ∷ v)) refl)

behind_then : (w u : Bytes) → AllByRecursion (λ b. plain b ≡ true) w → 0 < length w → behind_word (32 ∷ (w ++ (32 ∷ u))) ≡ 32 ∷ u
unfolding behind_word
behind_then [] u h s = absurd (omega arith)
behind_then (x ∷ v) u h s = ap (λ f. drop (prefix_len plain f) f) (front_at x (v ++ (32 ∷ u)) h.0) ∙ (ap (λ n. drop n ((x ∷ v) ++ (32 ∷ u))) (leading_plain (x ∷ v) u h) ∙ drop_at (x ∷ v) (32 ∷ u) (length (x ∷ v)) refl)

word_last : (w : Bytes) → AllByRecursion (λ b. plain b ≡ true) w → 0 < length w → first_word (32 ∷ w) ≡ w
unfolding first_word
word_last [] h s = absurd (omega arith)
word_last (x ∷ v) h s = ap (λ f. take (prefix_len plain f) f) (front_at x v h.0) ∙ (ap (λ n. take n (x ∷ v)) (leading_plain_end (x ∷ v) h) ∙ take_all (length (x ∷ v)) (x ∷ v) (omega arith))

behind_last : (w : Bytes) → AllByRecursion (λ b. plain b ≡ true) w → 0 < length w → behind_word (32 ∷ w) ≡ []
unfolding behind_word
behind_last [] h s = absurd (omega arith)
behind_last (x ∷ v) h s = ap (λ f. drop (prefix_len plain f) f) (front_at x v h.0) ∙ (ap (λ n. drop n (x ∷ v)) (leading_plain_end (x ∷ v) h) ∙ drop_all (length (x ∷ v)) (x ∷ v) (omega arith))

-- labels

label_plain : (l : Bytes) → LabelFits l → AllByRecursion (λ b. plain b ≡ true) (label_text l)
label_plain [] h = (refl, (refl, tt))
label_plain (b ∷ l) h = subst (AllByRecursion (λ b. plain b ≡ true)) (sym (cond-false (eqb (length (b ∷ l)) 0) _ _ (ne_eqb (length (b ∷ l)) 0 (λ z. omega arith)))) h.0

label_some : (l : Bytes) → 0 < length (label_text l)
label_some [] = omega arith
label_some (b ∷ l) = subst (λ t. 0 < length t) (sym (cond-false (eqb (length (b ∷ l)) 0) _ _ (ne_eqb (length (b ∷ l)) 0 (λ z. omega arith)))) (omega arith)

other_than_quotes : (l : Bytes) → (l ≡ quote ∷ quote ∷ [] → ⊥) → bytes_eq l (quote ∷ quote ∷ []) ≡ false
other_than_quotes l n = ⊎_elim (λ e. absurd (n ((bytes_eq-Decides l (quote ∷ quote ∷ [])).0 e))) (λ e. e) (cases_Bool (bytes_eq l (quote ∷ quote ∷ [])))

label_back : (l : Bytes) → LabelFits l → label_of (label_text l) ≡ l
label_back [] h = refl
label_back (b ∷ l) h =
    ap label_of (cond-false (eqb (length (b ∷ l)) 0) (quote ∷ quote ∷ []) (b ∷ l) (ne_eqb (length (b ∷ l)) 0 (λ z. omega arith)))
    ∙ cond-false (bytes_eq (b ∷ l) (quote ∷ quote ∷ [])) [] (b ∷ l) (other_than_quotes (b ∷ l) h.1)

-- values

ending_none : (t : Bytes) → 0 < length t → blank (get_or t (length t - 1) 0) ≡ false → suffix_len blank t ≡ 0
ending_none t s p = subst (λ u. suffix_len blank u ≡ 0) (take_all (length t) t (omega arith)) (suffix_len-take_no blank t (length t) 0 s (omega arith) p)

digit_plain : (n : ℕ) → blank (digit_of n) ≡ false
digit_plain n = grind (arith, nat_tests)

hex_plain : (v : Bytes) → AllByRecursion (λ b. blank b ≡ false) (hex v)
unfolding hex
hex_plain [] = tt
hex_plain (b ∷ v) = (digit_plain (b / 16), (digit_plain b, hex_plain v))

trimmed_at : (x : ℕ) (r : Bytes) → plain x ≡ true → suffix_len blank (x ∷ r) ≡ 0 → trimmed (32 ∷ x ∷ r) ≡ x ∷ r
unfolding trimmed
trimmed_at x r p e = ap trimmed_back (front_at x r p) ∙ take_all (length (x ∷ r) - suffix_len blank (x ∷ r)) (x ∷ r) (omega arith)

trimmed_value : (v : Bytes) → trimmed (32 ∷ value_text v) ≡ value_text v
unfolding value_text
trimmed_value v =
    let q : Bytes = quote ∷ (v ++ (quote ∷ [])) in
    let m : length q - 1 ≡ length (quote ∷ v) = omega (arith, length_push v quote) in
    let last : get_or q (length q - 1) 0 ≡ quote = ap (λ k. get_or q k 0) m ∙ get_or_at (quote ∷ v) quote [] 0 (length (quote ∷ v)) refl in
    let x : Bytes = hex_mark ∷ hex v in
    let all : AllByRecursion (λ b. blank b ≡ false) x = (refl, hex_plain v) in
    cond_both (printable v) q x (λ t. trimmed (32 ∷ t) ≡ t)
    (λ _. trimmed_at quote (v ++ (quote ∷ [])) refl (ending_none q (omega arith) (ap blank last)))
    (λ _. trimmed_at hex_mark (hex v) refl (ending_none x (omega arith) (All-get_or (λ b. blank b ≡ false) x (length x - 1) 0 (omega arith) all)))

value_some : (v : Bytes) → length (value_text v) ≡ 0 → ⊥
unfolding value_text
value_some v = cond_both (printable v) (quote ∷ (v ++ (quote ∷ []))) (hex_mark ∷ hex v) (λ t. length t ≡ 0 → ⊥) (λ _ z. omega arith) (λ _ z. omega arith)

-- calls

pub export_back : (l v : Bytes) → LabelFits l → value_said (value_text v) ≡ Some v → line_says (written (exporting l v)) ≡ asks (exporting l v)
unfolding written first_word behind_word
export_back l v h b =
    let rest : Bytes = 32 ∷ (label_text l ++ (32 ∷ value_text v)) in
    let p = label_plain l h in
    let s = label_some l in
    let w = word_then (label_text l) (value_text v) p s in
    sym (line_asks (codes "export " ++ (label_text l ++ (32 ∷ value_text v))) (codes "export") rest refl refl refl)
    ∙ (label_there rest l (32 ∷ value_text v) value_says
    (ap (λ t. eqb (length t) 0) w ∙ ne_eqb (length (label_text l)) 0 (λ z. omega arith))
    (sym (ap label_of w ∙ label_back l h))
    (sym (behind_then (label_text l) (value_text v) p s))
    ∙ value_there (32 ∷ value_text v) (value_text v) (sym (trimmed_value v)) l (Some v) (ne_eqb (length (value_text v)) 0 (value_some v)) (sym b))

pub read_back : (l : Bytes) → LabelFits l → line_says (written (reading l)) ≡ asks (reading l)
unfolding written first_word behind_word trimmed
read_back l h =
    let rest : Bytes = 32 ∷ label_text l in
    let p = label_plain l h in
    let s = label_some l in
    let w = word_last (label_text l) p s in
    let f : Bytes → Bytes → Line = λ m u. finish_says (reading m) u in
    sym (line_asks (codes "read " ++ label_text l) (codes "read") rest refl refl refl)
    ∙ (label_there rest l [] f
    (ap (λ t. eqb (length t) 0) w ∙ ne_eqb (length (label_text l)) 0 (λ z. omega arith))
    (sym (ap label_of w ∙ label_back l h))
    (sym (behind_last (label_text l) p s))
    ∙ sym (finish_done [] [] refl (reading l) refl))

pub list_back : line_says (written listing) ≡ asks listing
unfolding written first_word behind_word trimmed
list_back = sym (finish_done [] [] refl listing refl ∙ line_asks (codes "list") (codes "list") [] refl refl refl)

module _ (o a d l : Bytes) where
  pub export_put : (b e v : Bytes) → a ≡ o ++ codes "export " → b ≡ a ++ label_text l → d ≡ b ++ (32 ∷ []) → e ≡ d ++ value_text v → e ≡ o ++ written (exporting l v)
  unfolding written
  export_put b e v p q r s =
      s
      ∙ (ap (λ t. t ++ value_text v) (r ∙ ap (λ t. t ++ (32 ∷ [])) (q ∙ ap (λ t. t ++ label_text l) p))
      ∙ (append_assoc ((o ++ codes "export ") ++ label_text l) (32 ∷ []) (value_text v)
      ∙ (append_assoc (o ++ codes "export ") (label_text l) (32 ∷ value_text v)
      ∙ append_assoc o (codes "export ") (label_text l ++ (32 ∷ value_text v)))))

  pub read_put : a ≡ o ++ codes "read " → d ≡ a ++ label_text l → d ≡ o ++ written (reading l)
  unfolding written
  read_put p q = q ∙ (ap (λ t. t ++ label_text l) p ∙ append_assoc o (codes "read ") (label_text l))

pub list_put : (o d : Bytes) → d ≡ o ++ codes "list" → d ≡ o ++ written listing
unfolding written
list_put o d p = p
