-- Labels: the keys of a store, told apart by whether they end in ".tmp".
--   is_temporary k, Plain k    k ends in ".tmp"; it does not
--   within p c                 the contents there: the entries of c whose key begins with p
use Rattle.std.specs.Prelude.{◌≡◌, ◌-◌, Bool, false, not, length, drop}
use Rattle.keys.specs.Text.{Bytes}
use Rattle.storage.specs.Contents.{Contents, same, under, without}
use Rattle.atomic_write.specs.Exports.{suffix}

unfoldable pub is_temporary : Bytes → Bool
is_temporary k = same (drop (length k - length suffix) k) suffix

abbrev pub Plain : Bytes → Type 0
Plain k = is_temporary k ≡ false

unfoldable pub within : Bytes → Contents → Contents
within p c = without (λ k. not (under p k)) c
