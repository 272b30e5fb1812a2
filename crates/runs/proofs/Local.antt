-- A reading's answer follows from the contents under every prefix that its key or prefix begins with, and there is one.
use Rattle.std.proofs.Common.{◌≡◌, ℕ, Bool, true, false, cond, not, ◌⊎◌, List, [], ◌∷◌, ◌++◌, map, length, is_ok, filter, Option, Result, sym, refl, ap, ◌∙◌, subst, inl, inr, append_assoc}
use Rattle.std.proofs.ByRecursion.{has_append_right}
use Rattle.std.proofs.lemmas.Bool.{not_from_true}
use Rattle.std.specs.List.{ContainsAt as Has}
use Rattle.order.proofs.SortedLists.{has_first, has_cons_cases}
use Rattle.keys.specs.Text.{Bytes, slash, Begins}
use Rattle.keys.specs.declared.row.Row.{Row}
use Rattle.ranges.specs.declared.byte_range.ByteRange.{ByteRange}
use Rattle.extraction.specs.Notes.{Note}
use Rattle.storage.specs.Contents.{Contents, under, found, bytes_of, without, keys_of, total, sized}
use Rattle.storage.specs.Readings.{read_bytes, read_notes, range_bytes, ValueRead, RangeRead, RangesRead}
use Rattle.storage.specs.declared.fault.Fault.{Fault}
use Rattle.storage.specs.Faults.{answered}
use Rattle.storage.proofs.Order.{clash}
use Rattle.storage.proofs.Prefixes.{under_from_begins}
use Rattle.ranges.specs.Buffers.{fronted}
use Rattle.ranges.specs.Refusals.{first_no, room}
use Rattle.listings.specs.Listings.{row_for, Exactly, TheList, Stored, StoredUnder, Extends, Listed, DirListed, size_under}
use Rattle.listings.specs.declared.listing.StoreKeysPrefixes.{StoreKeysPrefixes}
use Rattle.runs.specs.Labels.{within}
use Rattle.runs.specs.Events.{Reading, size_key, get, get_partial, get_partial_many, key_at, list, list_prefix, list_dir, size_prefix, size, Readout, size_is, total_is, bytes_read, ranges_read, rows_listed, dir_listed}
use Rattle.runs.specs.Laws.{place_of}
use Rattle.runs.specs.Readings.{zeros, blank_notes, Reads}
use Rattle.runs.proofs.Within.{found_within, within-within, within_root, root_only, under_trans}

-- one answer to a question

value_one : {n : ℕ} {v : Option Bytes} {r s : Result (Option ℕ) Fault} {out a b : Bytes} → ValueRead n v r out a → ValueRead n v s out b → bytes_read r a ≡ bytes_read s b
value_one {n} {v} {r} {s} {out} {a} {b} x y =
    let e : r ≡ s = x.answer ∙ sym y.answer in
    (λ i. bytes_read (e i) ((x.output ∙ (λ j. cond (is_ok (e j)) (fronted (bytes_of v) out) out) ∙ sym y.output) i))

part_one : {n : ℕ} {v : Option Bytes} {t : ByteRange} {r s : Result (Option ℕ) Fault} {out a b : Bytes} → RangeRead n v t r out a → RangeRead n v t s out b → bytes_read r a ≡ bytes_read s b
part_one {n} {v} {t} {r} {s} {out} {a} {b} x y =
    let e : r ≡ s = x.answer ∙ sym y.answer in
    (λ i. bytes_read (e i) ((x.output ∙ (λ j. cond (is_ok (e j)) (fronted (range_bytes v t) out) out) ∙ sym y.output) i))

ranges_one : {n : ℕ} {v : Option Bytes} {ts : List ByteRange} {r s : Result (Option ℕ) Fault} {out a b : Bytes} {notes f g : List Note} → RangesRead n v ts r out a notes f → RangesRead n v ts s out b notes g → ranges_read r a f ≡ ranges_read s b g
ranges_one {n} {v} {ts} {r} {s} {out} {a} {b} {notes} {f} {g} x y =
    let e : r ≡ s = x.answer ∙ sym y.answer in
    let o = x.output ∙ (λ j. cond (is_ok (e j)) (fronted (read_bytes v ts) out) out) ∙ sym y.output in
    let m = x.noted ∙ (λ j. cond (is_ok (e j)) (fronted (read_notes v ts) notes) notes) ∙ sym y.noted in
    (λ i. ranges_read (e i) (o i) (m i))

listed_one : {P : Bytes → Type 0} {r s : Result ℕ Fault} {rows a b : List Row} → Listed P r rows a → Listed P s rows b → rows_listed r a ≡ rows_listed s b
listed_one {P} {r} {s} {rows} {a} {b} x y =
    let t : x.texts ≡ y.texts = y.list.only x.texts x.list.exactly in
    let e : r ≡ s = x.answer ∙ (λ i. answered (room (length rows) (length (t i))) (length (t i))) ∙ sym y.answer in
    (λ i. rows_listed (e i) ((x.filled ∙ (λ j. cond (is_ok (e j)) (fronted (map row_for (t j)) rows) rows) ∙ sym y.filled) i))

dir_one : {p : Bytes} {c : Contents} {r s : Result StoreKeysPrefixes Fault} {ks a b ps f g : List Row} → DirListed p c r ks a ps f → DirListed p c s ks b ps g → dir_listed r a f ≡ dir_listed s b g
dir_one {p} {c} {r} {s} {ks} {a} {b} {ps} {f} {g} x y =
    let t : x.key_texts ≡ y.key_texts = y.key_list.only x.key_texts x.key_list.exactly in
    let u : x.prefix_texts ≡ y.prefix_texts = y.prefix_list.only x.prefix_texts x.prefix_list.exactly in
    let e : r ≡ s = x.answer ∙ (λ i. answered (first_no (room (length ks) (length (t i)) ∷ room (length ps) (length (u i)) ∷ [])) (record { keys = length (t i); prefixes = length (u i) })) ∙ sym y.answer in
    let k = x.keys_filled ∙ (λ j. cond (is_ok (e j)) (fronted (map row_for (t j)) ks) ks) ∙ sym y.keys_filled in
    let m = x.prefixes_filled ∙ (λ j. cond (is_ok (e j)) (fronted (map row_for (u j)) ps) ps) ∙ sym y.prefixes_filled in
    (λ i. dir_listed (e i) (k i) (m i))

pub reads-one : (n : ℕ) (q : Reading) (c : Contents) (x y : Readout) → Reads n q c x → Reads n q c y → x ≡ y
reads-one n (size_key k) c x y a b = a ∙ sym b
reads-one n (get k m) c x y a b = a.2 ∙ value_one a.3 b.3 ∙ sym b.2
reads-one n (get_partial k t m) c x y a b = a.2 ∙ part_one a.3 b.3 ∙ sym b.2
reads-one n (get_partial_many k ts m l) c x y a b = a.3 ∙ ranges_one a.4 b.4 ∙ sym b.3
reads-one n (key_at i) c x y a b = a ∙ sym b
reads-one n (list m) c x y a b = a.2 ∙ listed_one a.3 b.3 ∙ sym b.2
reads-one n (list_prefix p m) c x y a b = a.2 ∙ listed_one a.3 b.3 ∙ sym b.2
reads-one n (list_dir p m l) c x y a b = a.3 ∙ dir_one a.4 b.4 ∙ sym b.3
reads-one n (size_prefix p) c x y a b = a ∙ sym b
reads-one n size c x y a b = a ∙ sym b

-- stored under p, and stored in what lies under p

has_at : (x : Bytes) (xs : List Bytes) (t : Bytes) → t ≡ x → Has (x ∷ xs) t
has_at x xs t e = subst (Has (x ∷ xs)) (sym e) (has_first x xs)

stored_rest : (test : Bytes → Bool) (c : Contents) (t : Bytes) → Stored (without test c) t → Stored c t
unfolding without
stored_rest test [] t h = h
stored_rest test (e ∷ es) t h = go (stored_rest test es t) (test e.key) h
  where
    go : (Stored (without test es) t → Stored es t) → (b : Bool) → Stored (elim b [ true ↦ without test es | false ↦ e ∷ without test es ]) t → Stored (e ∷ es) t
    go ih true h = has_append_right (e.key ∷ []) (keys_of es) t (ih h)
    go ih false h =
        elim (has_cons_cases e.key (keys_of (without test es)) t h) [
          | inl g ↦ has_at e.key (keys_of es) t g
          | inr g ↦ has_append_right (e.key ∷ []) (keys_of es) t (ih g)
        ]

stored_kept : (test : Bytes → Bool) (c : Contents) (t : Bytes) → test t ≡ false → Stored c t → Stored (without test c) t
unfolding without
stored_kept test [] t n h = h
stored_kept test (e ∷ es) t n h = go (stored_kept test es t n) (test e.key) refl (has_cons_cases e.key (keys_of es) t h)
  where
    go : (Stored es t → Stored (without test es) t) → (b : Bool) → test e.key ≡ b → (t ≡ e.key) ⊎ Stored es t → Stored (elim b [ true ↦ without test es | false ↦ e ∷ without test es ]) t
    go ih true q (inl g) = clash (test t) (ap test g ∙ q) n
    go ih true q (inr g) = ih g
    go ih false q (inl g) = has_at e.key (keys_of (without test es)) t g
    go ih false q (inr g) = has_append_right (e.key ∷ []) (keys_of (without test es)) t (ih g)

-- lists of what is stored

exactly_like : {P Q : Bytes → Type 0} {ts : List Bytes} → ((t : Bytes) → P t → Q t) → ((t : Bytes) → Q t → P t) → Exactly P ts → Exactly Q ts
exactly_like f g x = record { ascends = x.ascends; each = λ t h. f t (x.each t h); all = λ t q. x.all t (g t q) }

list_like : {P Q : Bytes → Type 0} {ts : List Bytes} → ((t : Bytes) → P t → Q t) → ((t : Bytes) → Q t → P t) → TheList P ts → TheList Q ts
list_like f g x = record { exactly = exactly_like f g x.exactly; only = λ us y. x.only us (exactly_like g f y) }

listed_like : {P Q : Bytes → Type 0} {r : Result ℕ Fault} {rows rows' : List Row} → ((t : Bytes) → P t → Q t) → ((t : Bytes) → Q t → P t) → Listed P r rows rows' → Listed Q r rows rows'
listed_like f g x = record { texts = x.texts; list = list_like f g x.list; answer = x.answer; filled = x.filled }

kept_within : (q : Bytes) (c : Contents) → filter (λ e. under q e.key) c ≡ within q c
unfolding within without
kept_within q [] = refl
kept_within q (e ∷ es) = go (kept_within q es) (under q e.key)
  where
    go : filter (λ x. under q x.key) es ≡ without (λ k. not (under q k)) es → (b : Bool) → cond b (e ∷ filter (λ x. under q x.key) es) (filter (λ x. under q x.key) es) ≡ elim (not b) [ true ↦ without (λ k. not (under q k)) es | false ↦ e ∷ without (λ k. not (under q k)) es ]
    go ih true = ap (λ (r : Contents). e ∷ r) ih
    go ih false = ih

module _ (p q : Bytes) (c : Contents) (u : under p q ≡ true) where
  -- what begins with q begins with p
  beneath : (t : Bytes) → Begins t q → under p t ≡ true
  beneath t b = under_trans p q t u (under_from_begins q t b)

  in_there : (t : Bytes) → Begins t q → Stored c t → Stored (within p c) t
  unfolding within
  in_there t b h = stored_kept (λ k. not (under p k)) c t (not_from_true (under p t) (beneath t b)) h

  in_all : (t : Bytes) → Stored (within p c) t → Stored c t
  unfolding within
  in_all t h = stored_rest (λ k. not (under p k)) c t h

  under_local : {r : Result ℕ Fault} {rows rows' : List Row} → Listed (StoredUnder q c) r rows rows' → Listed (StoredUnder q (within p c)) r rows rows'
  under_local = listed_like (λ t h. (in_there t h.1 h.0, h.1)) (λ t h. (in_all t h.0, h.1))

  begins_extended : (k t : Bytes) → Extends q k t → Begins k q
  begins_extended k t (part, is, long, free, (rest, more)) =
      ((part ++ (slash ∷ [])) ++ rest, more ∙ ap (λ (x : Bytes). x ++ rest) is ∙ append_assoc q (part ++ (slash ∷ [])) rest)

  dir_local : {r : Result StoreKeysPrefixes Fault} {ks ks' ps ps' : List Row} → DirListed q c r ks ks' ps ps' → DirListed q (within p c) r ks ks' ps ps'
  dir_local x =
      record {
        key_texts = x.key_texts;
        prefix_texts = x.prefix_texts;
        key_list = list_like (λ t h. (in_there t (h.1.0, h.1.1) h.0, h.1)) (λ t h. (in_all t h.0, h.1)) x.key_list;
        prefix_list = list_like (λ t h. (h.0, in_there h.0 (begins_extended h.0 t h.2) h.1, h.2)) (λ t h. (h.0, in_all h.0 h.1, h.2)) x.prefix_list;
        parents = x.parents;
        answer = x.answer;
        keys_filled = x.keys_filled;
        prefixes_filled = x.prefixes_filled;
      }

  size_local : size_under q c ≡ size_under q (within p c)
  size_local = ap total (kept_within q c ∙ sym (within-within p q c u) ∙ sym (kept_within q (within p c)))

-- of root, where p is root
of_root : (p : Bytes) (P : Contents → Type 0) (c : Contents) → under p [] ≡ true → P c → P (within p c)
of_root p P c u x = subst P (sym (ap (λ (r : Bytes). within r c) (root_only p u) ∙ within_root c)) x

of_key : (p k : Bytes) (P : Option Bytes → Type 0) (c : Contents) → under p k ≡ true → P (found k c) → P (found k (within p c))
of_key p k P c u x = subst P (sym (found_within p k c u)) x

pub reads_local : (p : Bytes) (n : ℕ) (q : Reading) (c : Contents) (x : Readout) → under p (place_of q) ≡ true → Reads n q c x → Reads n q (within p c) x
reads_local p n (size_key k) c x u a = of_key p k (λ v. x ≡ size_is (sized v)) c u a
reads_local p n (get k m) c x u a = (a.0, a.1, a.2, of_key p k (λ v. ValueRead n v a.0 (zeros m) a.1) c u a.3)
reads_local p n (get_partial k b m) c x u a = (a.0, a.1, a.2, of_key p k (λ v. RangeRead n v b a.0 (zeros m) a.1) c u a.3)
reads_local p n (get_partial_many k bs m l) c x u a =
    (a.0, a.1, a.2, a.3, of_key p k (λ v. RangesRead n v bs a.0 (zeros m) a.1 (blank_notes l) a.2) c u a.4)
reads_local p n (key_at i) c x u a = of_root p (λ d. Reads n (key_at i) d x) c u a
reads_local p n (list m) c x u a = of_root p (λ d. Reads n (list m) d x) c u a
reads_local p n (list_prefix q m) c x u a = (a.0, a.1, a.2, under_local p q c u a.3)
reads_local p n (list_dir q m l) c x u a = (a.0, a.1, a.2, a.3, dir_local p q c u a.4)
reads_local p n (size_prefix q) c x u a = a ∙ ap total_is (size_local p q c u)
reads_local p n size c x u a = of_root p (λ d. Reads n size d x) c u a
