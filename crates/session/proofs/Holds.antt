-- What a store holds, written key by key.
use Rattle.std.proofs.Common.{◌≡◌, ℕ, ◌+◌, ◌<◌, ◌≤◌, true, [], ◌∷◌, ◌++◌, length, get_or, take, drop, Some, unwrap_or, sym, refl, ap, ◌∙◌, subst, append_assoc, arith}
use Rattle.std.specs.List.{slice_get}
use Rattle.std.proofs.lemmas.List.{append-nil, at_drop_more, drop_more, take-append-drop, map-append, get_or-map, length-map, drop_all}
use Rattle.std.proofs.lemmas.Option.{slice_get-get_or}
use Rattle.keys.specs.Text.{Bytes}
use Rattle.storage.specs.Contents.{Entry, Contents, Ascending, ascending, keys_of, found, sized, total}
use Rattle.storage.proofs.Ascends.{ascending_split}
use Rattle.storage.proofs.Places.{found_at}
use Rattle.script.proofs.Appends.{onward}
use Rattle.transcript.specs.Answers.{entry_line, total_line}
use Rattle.session.specs.Runs.{entries_text, holds_text}
use Rattle.session.proofs.Keys.{below}

-- n keys are written: what is left of the lines and of the bytes
pub record Sofar (c : Contents) (n bytes : ℕ) (o a : Bytes) : Type 0 where
  pub within : n ≤ length c
  pub lines : a ++ entries_text (drop n c) ≡ o ++ entries_text c
  pub sum : bytes + total (drop n c) ≡ total c

pub no_line : (c : Contents) (n : ℕ) (o : Bytes) → n ≡ 0 → Sofar c n 0 o o
no_line c n o z = subst (λ j. Sofar c j 0 o o) (sym z) (record { within = omega arith; lines = refl; sum = omega arith })

nobody : Entry
nobody = record { key = []; value = [] }

module _ (c : Contents) (n : ℕ) where
  pub here : (k : Bytes) → Some k ≡ slice_get (keys_of c) n → n < length c
  here k e = omega (arith, below (keys_of c) n k e, length-map c (λ (x : Entry). x.key))

  key_here : (k : Bytes) → Some k ≡ slice_get (keys_of c) n → (get_or c n nobody).key ≡ k
  key_here k e =
      let l = below (keys_of c) n k e in
      let p = slice_get-get_or (keys_of c) n [] l in
      let q = get_or-map (λ (x : Entry). x.key) c n nobody [] (here k e) in
      cc

  parts : n < length c → c ≡ take n c ++ (get_or c n nobody ∷ drop (n + 1) c)
  parts l = sym (take-append-drop n c) ∙ ap (λ t. take n c ++ t) (drop_more c n nobody l)

  found_here : (k : Bytes) → Ascending c → Some k ≡ slice_get (keys_of c) n → found k c ≡ Some (get_or c n nobody).value
  found_here k a e =
      let l = here k e in
      let s = parts l in
      let f : Entry → Bytes = λ x. x.key in
      let m : keys_of c ≡ keys_of (take n c) ++ ((get_or c n nobody).key ∷ keys_of (drop (n + 1) c)) = ap keys_of s ∙ map-append f (take n c) (get_or c n nobody ∷ drop (n + 1) c) in
      let g = ascending_split (keys_of (take n c)) (get_or c n nobody).key (keys_of (drop (n + 1) c)) (subst (λ ks. ascending ks ≡ true) m a) in
      ap (found k) s ∙ subst (λ j. found j (take n c ++ (get_or c n nobody ∷ drop (n + 1) c)) ≡ Some (get_or c n nobody).value) (key_here k e) (found_at (get_or c n nobody).key (take n c) (get_or c n nobody) (drop (n + 1) c) g.below refl)

  entries_more : n < length c → entries_text (drop n c) ≡ entry_line (get_or c n nobody).key (length (get_or c n nobody).value) ++ entries_text (drop (n + 1) c)
  unfolding entries_text
  entries_more l = at_drop_more entries_text c n nobody l

  total_more : n < length c → total (drop n c) ≡ length (get_or c n nobody).value + total (drop (n + 1) c)
  unfolding total
  total_more l = at_drop_more total c n nobody l

  size_here : (k : Bytes) (size : ℕ) → Ascending c → Some k ≡ slice_get (keys_of c) n → size ≡ unwrap_or (sized (found k c)) 0 → size ≡ length (get_or c n nobody).value
  size_here k size a e p = p ∙ ap (λ v. unwrap_or (sized v) 0) (found_here k a e)

  pub sum_fits : (k : Bytes) (size bytes : ℕ) → Ascending c → Some k ≡ slice_get (keys_of c) n → size ≡ unwrap_or (sized (found k c)) 0 → bytes + total (drop n c) ≡ total c → bytes + size ≤ total c
  sum_fits k size bytes a e p s = omega (arith, size_here k size a e p, total_more (here k e))

  pub one_line : (k : Bytes) (size bytes : ℕ) (o w b : Bytes) → Ascending c → Some k ≡ slice_get (keys_of c) n → size ≡ unwrap_or (sized (found k c)) 0 → b ≡ w ++ entry_line k size → Sofar c n bytes o w → Sofar c (n + 1) (bytes + size) o b
  one_line k size bytes o w b a e p q i =
      let l = here k e in
      let z = size_here k size a e p in
      record {
        within = omega arith;
        lines = onward b w (entry_line k size) (entries_text (drop n c)) (entries_text (drop (n + 1) c)) (o ++ entries_text c) q
            (entries_more l ∙ (ap (λ j. entry_line j (length (get_or c n nobody).value) ++ entries_text (drop (n + 1) c)) (key_here k e) ∙ ap (λ m. entry_line k m ++ entries_text (drop (n + 1) c)) (sym z)))
            i.lines;
        sum = omega (arith, total_more l, i.sum);
      }

  pub next_line : (m bytes : ℕ) (o b : Bytes) → m ≡ n + 1 → Sofar c (n + 1) bytes o b → Sofar c m bytes o b
  next_line m bytes o b e h = subst (λ j. Sofar c j bytes o b) (sym e) h

  pub all_lines : (bytes : ℕ) (o w b : Bytes) → length c ≤ n → b ≡ w ++ total_line n bytes → Sofar c n bytes o w → b ≡ o ++ holds_text c
  unfolding holds_text entries_text total
  all_lines bytes o w b p q i =
      let d = drop_all n c p in
      let m : n ≡ length c = omega (arith, i.within) in
      let t : bytes ≡ total c = omega (arith, i.sum, ap total d) in
      let x : w ≡ o ++ entries_text c = sym (append-nil w) ∙ (ap (λ u. w ++ u) (sym (ap entries_text d)) ∙ i.lines) in
      q ∙ (ap (λ u. u ++ total_line n bytes) x ∙ (append_assoc o (entries_text c) (total_line n bytes) ∙ (ap (λ j. o ++ (entries_text c ++ total_line j bytes)) m ∙ ap (λ j. o ++ (entries_text c ++ total_line (length c) j)) t)))
