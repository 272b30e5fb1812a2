-- What the laws know of temporaries: one label's is no other's, none is plain, and each lies under the prefixes of its label.
use Rattle.std.proofs.Common.{◌≡◌, ◌-◌, Bool, true, false, ◌++◌, length, take, drop, sym, refl, ap, ◌∙◌, arith, length-append}
use Rattle.std.proofs.lemmas.List.{drop_at, take_at}
use Rattle.keys.specs.Text.{Bytes, PrefixText}
use Rattle.keys.specs.Texts.{final_slash, begins_more, begins-suffix}
use Rattle.storage.specs.Contents.{same, under}
use Rattle.storage.proofs.Order.{clash, same_false, eq_same}
use Rattle.storage.proofs.Prefixes.{begins_from_under, under_from_begins}
use Rattle.atomic_write.proofs.Temporaries.{suffix-slash_free}
use Rattle.atomic_write.specs.Exports.{temporary, suffix}
use Rattle.runs.specs.Labels.{is_temporary, Plain}

pub temporary_test : (k : Bytes) → is_temporary (temporary k) ≡ true
unfolding is_temporary temporary
temporary_test k =
    let n : length k ≡ length (k ++ suffix) - 4 = simp length-append (omega arith) in
    eq_same (drop (length (k ++ suffix) - 4) (k ++ suffix)) suffix (drop_at k suffix (length (k ++ suffix) - 4) n)

pub plain_apart : (k j : Bytes) → Plain k → k ≡ temporary j → ⊥
plain_apart k j p e = clash (is_temporary k) (ap is_temporary e ∙ temporary_test j) p

pub temporary_apart : (k j : Bytes) → Plain j → temporary k ≡ j → ⊥
temporary_apart k j p e = plain_apart j k p (sym e)

pub temporary-one : (k j : Bytes) → temporary k ≡ temporary j → k ≡ j
unfolding temporary
temporary-one k j e =
    let n : length k ≡ length j = omega (arith, simp length-append at (ap length e)) in
    sym (take_at k suffix (length k) refl) ∙ ap (take (length k)) e ∙ take_at j suffix (length k) (sym n)

pub temporary_ne : (k j : Bytes) → same k j ≡ false → temporary k ≡ temporary j → ⊥
temporary_ne k j q e = same_false k j q (temporary-one k j e)

-- a prefix ends in a slash, which the suffix has none of

pub under-temporary : (p k : Bytes) → PrefixText p → under p (temporary k) ≡ under p k
unfolding temporary
under-temporary p k t = go (under p k) (under p (temporary k)) refl refl
  where
    go : (x y : Bool) → under p k ≡ x → under p (temporary k) ≡ y → y ≡ x
    go true true q r = refl
    go true false q r = clash (under p (temporary k)) (under_from_begins p (temporary k) (begins_more k suffix p (begins_from_under p k q))) r
    go false true q r = clash (under p k) (under_from_begins p k (begins-suffix k suffix p suffix-slash_free (final_slash p t) (begins_from_under p (temporary k) r))) q
    go false false q r = refl
