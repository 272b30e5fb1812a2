-- Examples of keys and prefixes, as statements about their rules.
use Rattle.std.specs.Prelude.{◌≡◌, Ok, Err, codes, Result}
use Rattle.keys.specs.Text.{Bytes}
use Rattle.keys.specs.StoreKeys.{text, key_fault, MadeKey}
use Rattle.keys.specs.StorePrefixes.{prefix_text, prefix_fault, MadePrefix}
use Rattle.keys.specs.declared.store_key.StoreKey.{StoreKey}
use Rattle.keys.specs.declared.store_key.StoreKeyError.{StoreKeyError}
use Rattle.keys.specs.declared.store_prefix.StorePrefix.{StorePrefix}
use Rattle.keys.specs.declared.store_prefix.StorePrefixError.{StorePrefixError}

-- the bytes are a key
abbrev pub IsKey : Bytes → Type 0
IsKey t = (r : Result StoreKey StoreKeyError) → MadeKey t r → (k : StoreKey) × (r ≡ Ok k) × (text k ≡ t)

-- the bytes are refused as a key with 1
abbrev pub NoKey : Bytes → Type 0
NoKey t = (r : Result StoreKey StoreKeyError) → MadeKey t r → (e : StoreKeyError) × (r ≡ Err e) × (key_fault e ≡ 1)

-- the bytes are a prefix
abbrev pub IsPrefix : Bytes → Type 0
IsPrefix t = (r : Result StorePrefix StorePrefixError) → MadePrefix t r → (p : StorePrefix) × (r ≡ Ok p) × (prefix_text p ≡ t)

-- the bytes are refused as a prefix with 2
abbrev pub NoPrefix : Bytes → Type 0
NoPrefix t = (r : Result StorePrefix StorePrefixError) → MadePrefix t r → (e : StorePrefixError) × (r ≡ Err e) × (prefix_fault e ≡ 2)

-- the examples
pub record KeyExamples : Type 0 where
  pub root : IsKey (codes "")
  pub plain : IsKey (codes "a")
  pub nested : IsKey (codes "a/b")
  pub slash_first : NoKey (codes "/a")
  pub slash_last : NoKey (codes "a/")
  pub slash_double : NoKey (codes "a//b")
  pub prefix_double : IsPrefix (codes "a//")
  pub prefix_slash : NoPrefix (codes "/")
