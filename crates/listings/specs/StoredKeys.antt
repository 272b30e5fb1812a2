-- What the keys of a store are, one by one.
--   GivesKey ks n r m          the answer r to asking for the n-th of the keys ks, and the place m to ask for then
use Rattle.std.specs.Prelude.{◌≡◌, ℕ, ◌+◌, List, Some, None, Option}
use Rattle.std.specs.List.{slice_get}
use Rattle.keys.specs.Text.{Bytes}
use Rattle.keys.specs.StoreKeys.{text}
use Rattle.keys.specs.declared.store_key.StoreKey.{StoreKey}

abbrev pub GivesKey : List Bytes → ℕ → Option StoreKey → ℕ → Type 0
GivesKey ks n None m = (None ≡ slice_get ks n) × (m ≡ n)
GivesKey ks n (Some k) m = (Some (text k) ≡ slice_get ks n) × (m ≡ n + 1)
