-- Examples of listings, shown of the definitions.
use Rattle.std.specs.Prelude.{[], ◌∷◌, codes}
use Rattle.keys.specs.Text.{Bytes}
use Rattle.storage.specs.Contents.{Contents}
use Rattle.listings.specs.Listings.{TheList, DirectKey, ChildPrefix}

-- a/b, a/d/e and a/d/f are stored, with any values
abbrev pub three_keys : Bytes → Bytes → Bytes → Contents
three_keys u v w = record { key = codes "a/b"; value = u } ∷ record { key = codes "a/d/e"; value = v } ∷ record { key = codes "a/d/f"; value = w } ∷ []

-- then a listing of a/ gives the key a/b and the prefix a/d/
pub record ListingExamples : Type 0 where
  pub direct_key : (u v w : Bytes) → TheList (DirectKey (codes "a/") (three_keys u v w)) (codes "a/b" ∷ [])
  pub child_prefix : (u v w : Bytes) → TheList (ChildPrefix (codes "a/") (three_keys u v w)) (codes "a/d/" ∷ [])
