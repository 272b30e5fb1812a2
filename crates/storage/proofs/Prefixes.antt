-- The test of a prefix says what it means: the key begins with it.
use Rattle.std.proofs.Common.{◌≡◌, Bool, true, false, ◌++◌, length, take, drop, Decides, sym, refl, ap, ◌∙◌}
use Rattle.std.proofs.lemmas.List.{take-append-drop, take_at}
use Rattle.keys.specs.Text.{Bytes, Begins}
use Rattle.storage.specs.Contents.{under}
use Rattle.storage.proofs.Order.{clash, same_true, eq_same}

pub begins_from_under : (p k : Bytes) → under p k ≡ true → Begins k p
unfolding under
begins_from_under p k h =
    (drop (length p) k, sym (take-append-drop (length p) k) ∙ ap (λ (x : Bytes). x ++ drop (length p) k) (same_true (take (length p) k) p h))

pub under_from_begins : (p k : Bytes) → Begins k p → under p k ≡ true
unfolding under
under_from_begins p k b = eq_same (take (length p) k) p (ap (take (length p)) b.1 ∙ take_at p b.0 (length p) refl)

-- what `has_prefix` answers
pub under_decided : (p k : Bytes) (r : Bool) → Decides r (Begins k p) → under p k ≡ r
under_decided p k true d = under_from_begins p k (d.0 refl)
under_decided p k false d = go (under p k) refl
  where
    go : (b : Bool) → under p k ≡ b → b ≡ false
    go true q = clash false (d.1 (begins_from_under p k q)) refl
    go false q = refl
