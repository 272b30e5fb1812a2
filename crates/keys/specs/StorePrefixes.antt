-- What a StorePrefix means: its text, and what making one, and its parent, answer.
use Rattle.std.specs.Prelude.{◌≡◌, ℕ, ◌<◌, ◌≤◌, [], ◌∷◌, ◌++◌, length, Some, None, Ok, Err, Option, Result}
use Rattle.keys.specs.Text.{Bytes, slash, PrefixText, Parent}
use Rattle.keys.specs.declared.store_prefix.StorePrefix.{StorePrefix}
use Rattle.keys.specs.declared.store_prefix.StorePrefixError.{StorePrefixError}
use Rattle.keys.specs.declared.store_prefix.StorePrefixError.TheVariants.{TooLong, Invalid}

-- the text of a prefix
abbrev pub prefix_text : StorePrefix → Bytes
prefix_text p = p.text

-- the number of a refusal
abbrev pub prefix_fault : StorePrefixError → ℕ
prefix_fault TooLong = 3
prefix_fault Invalid = 2

-- t is too long for a prefix (asked first), breaks the rule (asked next), or is the prefix's text
abbrev pub MadePrefix : Bytes → Result StorePrefix StorePrefixError → Type 0
MadePrefix t (Err TooLong) = 121 < length t
MadePrefix t (Err Invalid) = (length t ≤ 121) × (PrefixText t → ⊥)
MadePrefix t (Ok p) = (length t ≤ 121) × PrefixText t × (prefix_text p ≡ t)

-- p is the parent of the text t, and no other text is
unfoldable pub ParentIs : Bytes → StorePrefix → Type 0
ParentIs t p = Parent t (prefix_text p) × ((q : Bytes) → Parent t q → q ≡ prefix_text p)

-- the root has no parent; another prefix has the parent of its text less the trailing slash
abbrev pub ParentOf : Bytes → Option StorePrefix → Type 0
ParentOf t None = t ≡ []
ParentOf t (Some p) = (u : Bytes) × (t ≡ u ++ (slash ∷ [])) × ParentIs u p
