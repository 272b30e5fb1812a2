-- The examples of listings hold.
use Rattle.std.proofs.Common.{◌≡◌, ℕ, [], ◌∷◌, ◌++◌, get_or, sym, refl, ap, ◌∙◌, subst, ⊎_elim, arith}
use Rattle.std.specs.List.Sorted.{IsStrictlySortedBy}
use Rattle.std.specs.List.{ContainsAt as Has}
use Rattle.std.proofs.lemmas.List.{append_cancel_left}
use Rattle.keys.specs.ByteOrder.{compare_bytes}
use Rattle.keys.specs.Text.{Bytes, slash, SlashFree}
use Rattle.keys.specs.Texts.{free_from}
use Rattle.order.proofs.SortedLists.{has_first, has_cons_cases}
use Rattle.listings.specs.Listings.{Exactly, TheList, DirectKey, ChildPrefix, Beneath, Extends}
use Rattle.listings.specs.ListingExamples.{ListingExamples, three_keys}
use Rattle.listings.proofs.Children.{extends_unique, key_from_extends}
use Rattle.listings.proofs.Gathers.{exactly_unique}
use Rattle.listings.proofs.SortedSets.{has_none, has_later}

abbrev dir : Bytes
dir = 97 ∷ 47 ∷ []

abbrev b_key : Bytes
b_key = 97 ∷ 47 ∷ 98 ∷ []

abbrev e_key : Bytes
e_key = 97 ∷ 47 ∷ 100 ∷ 47 ∷ 101 ∷ []

abbrev f_key : Bytes
f_key = 97 ∷ 47 ∷ 100 ∷ 47 ∷ 102 ∷ []

abbrev child : Bytes
child = 97 ∷ 47 ∷ 100 ∷ 47 ∷ []

free_one : (x : ℕ) → (x ≡ slash → ⊥) → SlashFree (x ∷ [])
free_one x n = free_from (x ∷ []) (λ k l e. let z : k ≡ 0 = omega arith in n (sym (ap (λ j. get_or (x ∷ []) j 0) z) ∙ e))

sorted_one : (t : Bytes) → IsStrictlySortedBy compare_bytes (t ∷ [])
unfolding IsStrictlySortedBy
sorted_one t = (tt, tt)

one : (x t : Bytes) → Has (x ∷ []) t → t ≡ x
one x t h = ⊎_elim (λ e. e) (λ g. absurd (has_none t g)) (has_cons_cases x [] t h)

the_one : (P : Bytes → Type 0) (x : Bytes) → P x → ((t : Bytes) → P t → t ≡ x) → TheList P (x ∷ [])
the_one P x p only =
    let y : Exactly P (x ∷ []) = record {
      ascends = sorted_one x;
      each = λ t h. subst P (sym (one x t h)) p;
      all = λ t q. subst (Has (x ∷ [])) (sym (only t q)) (has_first x []);
    } in
    record { exactly = y; only = λ us z. exactly_unique P (x ∷ []) us y z }

-- one of the three
three : (P : Bytes → Type 0) (t : Bytes) → Has (b_key ∷ e_key ∷ f_key ∷ []) t → P b_key → P e_key → P f_key → P t
three P t h b e f =
    ⊎_elim
    (λ q. subst P (sym q) b)
    (λ g. ⊎_elim (λ q. subst P (sym q) e) (λ i. subst P (sym (one f_key t i)) f) (has_cons_cases e_key (f_key ∷ []) t g))
    (has_cons_cases b_key (e_key ∷ f_key ∷ []) t h)

-- a key with a slash behind the prefix
deep : (x : ℕ) → Beneath dir (97 ∷ 47 ∷ 100 ∷ 47 ∷ x ∷ []) → ⊥
deep x (r, e, free) = free (100 ∷ []) (x ∷ []) (sym (append_cancel_left dir (100 ∷ 47 ∷ x ∷ []) r e))

extends : (x : ℕ) → Extends dir (97 ∷ 47 ∷ 100 ∷ 47 ∷ x ∷ []) child
extends x = (100 ∷ [], refl, omega arith, free_one 100 (λ e. omega arith), (x ∷ [], refl))

flat : (t : Bytes) → Extends dir b_key t → ⊥
flat t x =
    free_one 98 (λ e. omega arith) x.0 x.4.0 (append_cancel_left dir (98 ∷ []) (x.0 ++ (slash ∷ x.4.0)) (key_from_extends dir b_key t x))

pub listing_examples : ListingExamples
listing_examples = record {
  direct_key = λ u v w.
      the_one (DirectKey dir (three_keys u v w)) b_key
      (has_first b_key (e_key ∷ f_key ∷ []), (98 ∷ [], refl, free_one 98 (λ e. omega arith)))
      (λ t q. three (λ z. Beneath dir z → z ≡ b_key) t q.0 (λ _. refl) (λ g. absurd (deep 101 g)) (λ g. absurd (deep 102 g)) q.1);
  child_prefix = λ u v w.
      the_one (ChildPrefix dir (three_keys u v w)) child
      (e_key, has_later b_key (e_key ∷ f_key ∷ []) e_key (has_first e_key (f_key ∷ [])), extends 101)
      (λ t q. three (λ z. Extends dir z t → t ≡ child) q.0 q.1 (λ g. absurd (flat t g)) (λ g. extends_unique dir e_key t child g (extends 101)) (λ g. extends_unique dir f_key t child g (extends 102)) q.2);
}
