-- The answers of listings.
use Rattle.std.proofs.Common.{◌≡◌, ℕ, ◌<◌, ◌≤◌, cond, List, [], ◌∷◌, map, length, is_ok, Ok, Err, Result, sym, refl, ap, ◌∙◌, arith}
use Rattle.keys.specs.Text.{Bytes, FinalSlash}
use Rattle.keys.specs.declared.row.Row.{Row}
use Rattle.ranges.proofs.Questions.{room_short, room_enough}
use Rattle.ranges.specs.Buffers.{fronted}
use Rattle.ranges.specs.Refusals.{room, first_no}
use Rattle.storage.specs.Contents.{Contents, keys_of}
use Rattle.storage.specs.Faults.{own, answered}
use Rattle.storage.specs.declared.fault.Cause.TheVariants.{Short}
use Rattle.storage.specs.declared.fault.Fault.{Fault}
use Rattle.listings.specs.Listings.{Exactly, TheList, Listed, DirListed, row_for}
use Rattle.listings.specs.Picks.{Gathered, Listing, Counted, Spacious, Filled}
use Rattle.listings.specs.declared.listing.StoreKeysPrefixes.{StoreKeysPrefixes}
use Rattle.listings.specs.declared.pick.Selection.{Selection}
use Rattle.listings.specs.declared.pick.Selection.TheVariants.{Keys, KeysUnder, DirectKeys, Prefixes, Children}
use Rattle.listings.proofs.Children.{parent_from_beneath, beneath_from_parent}
use Rattle.listings.proofs.Gathers.{exactly_unique, exactly_like}

-- what is gathered of the stored keys is what is listed

listing_from : (s : Selection) (p : Bytes) (c : Contents) (t : Bytes) → Gathered s p (keys_of c) t → Listing s p c t
listing_from Keys p c t (k, h, e) = rw e h
listing_from KeysUnder p c t (k, h, (e, b)) = rw e (h, b)
listing_from DirectKeys p c t (k, h, (e, b)) = rw e (h, b)
listing_from Prefixes p c t g = g
listing_from Children p c t (k, h, (e, n)) = ((k, h, e), n)

gathered_from : (s : Selection) (p : Bytes) (c : Contents) (t : Bytes) → Listing s p c t → Gathered s p (keys_of c) t
gathered_from Keys p c t h = (t, h, refl)
gathered_from KeysUnder p c t (h, b) = (t, h, (refl, b))
gathered_from DirectKeys p c t (h, b) = (t, h, (refl, b))
gathered_from Prefixes p c t g = g
gathered_from Children p c t ((k, h, e), n) = (k, h, (e, n))

module _ (s : Selection) (p : Bytes) (c : Contents) where
  pub the_list : (ts : List Bytes) → Exactly (Gathered s p (keys_of c)) ts → TheList (Listing s p c) ts
  the_list ts x =
      let y = exactly_like (Gathered s p (keys_of c)) (Listing s p c) ts (listing_from s p c) (gathered_from s p c) x in
      record { exactly = y; only = λ us z. exactly_unique (Listing s p c) ts us y z }

  -- too few rows
  pub listed_short : (n : ℕ) (rows : List Row) (f : Fault) → Counted (Gathered s p (keys_of c)) n → length rows < n → f ≡ own Short → Listed (Listing s p c) (Err f) rows rows
  listed_short n rows f (ts, x, e) l is =
      record {
        texts = ts;
        list = the_list ts x;
        answer = rw (is, room_short (length rows) (length ts) (omega arith)) refl;
        filled = refl;
      }

  pub spacious : (n : ℕ) (rows : List Row) → Counted (Gathered s p (keys_of c)) n → n ≤ length rows → Spacious (Gathered s p (keys_of c)) rows
  spacious n rows (ts, x, e) l = (ts, x, omega arith)

  -- enough
  pub listed_room : (n : ℕ) (rows rows' : List Row) → Counted (Gathered s p (keys_of c)) n → n ≤ length rows → Filled (Gathered s p (keys_of c)) rows rows' → Listed (Listing s p c) (Ok n) rows rows'
  listed_room n rows rows' (ts, x, e) l f =
      record {
        texts = ts;
        list = the_list ts x;
        answer = rw (room_enough (length rows) (length ts) (omega arith), e) refl;
        filled = f ts x;
      }

-- keys and prefixes
module _ (p : Bytes) (c : Contents) (final : FinalSlash p) (n m : ℕ) (keys prefixes : List Row) (a : Counted (Gathered DirectKeys p (keys_of c)) n) (b : Counted (Gathered Prefixes p (keys_of c)) m) where
  dir :
      (r : Result StoreKeysPrefixes Fault) (keys' prefixes' : List Row)
      → r ≡ answered (first_no (room (length keys) (length a.0) ∷ room (length prefixes) (length b.0) ∷ [])) (record { keys = length a.0; prefixes = length b.0 })
      → keys' ≡ cond (is_ok r) (fronted (map row_for a.0) keys) keys
      → prefixes' ≡ cond (is_ok r) (fronted (map row_for b.0) prefixes) prefixes
      → DirListed p c r keys keys' prefixes prefixes'
  dir r keys' prefixes' e f g =
      record {
        key_texts = a.0;
        prefix_texts = b.0;
        key_list = the_list DirectKeys p c a.0 a.1;
        prefix_list = the_list Prefixes p c b.0 b.1;
        parents = λ t. (parent_from_beneath p t final, beneath_from_parent p t);
        answer = e;
        keys_filled = f;
        prefixes_filled = g;
      }

  pub dir_few_keys : (f : Fault) → length keys < n → f ≡ own Short → DirListed p c (Err f) keys keys prefixes prefixes
  dir_few_keys f l is = dir (Err f) keys prefixes (rw (is, room_short (length keys) (length a.0) (omega (arith, a.2))) refl) refl refl

  pub dir_few_prefixes : (f : Fault) → n ≤ length keys → length prefixes < m → f ≡ own Short → DirListed p c (Err f) keys keys prefixes prefixes
  dir_few_prefixes f l h is =
      dir (Err f) keys prefixes (rw (is, room_enough (length keys) (length a.0) (omega (arith, a.2)), room_short (length prefixes) (length b.0) (omega (arith, b.2))) refl) refl refl

  pub dir-filled :
      (keys' prefixes' : List Row)
      → n ≤ length keys
      → m ≤ length prefixes
      → Filled (Gathered DirectKeys p (keys_of c)) keys keys'
      → Filled (Gathered Prefixes p (keys_of c)) prefixes prefixes'
      → DirListed p c (Ok (record { keys = n; prefixes = m })) keys keys' prefixes prefixes'
  dir-filled keys' prefixes' l h f g =
      dir (Ok (record { keys = n; prefixes = m })) keys' prefixes'
      (rw (room_enough (length keys) (length a.0) (omega (arith, a.2)), room_enough (length prefixes) (length b.0) (omega (arith, b.2)), a.2, b.2) refl)
      (f a.0 a.1) (g b.0 b.1)

-- listings of the same texts into the same rows answer the same and leave the same
pub same_listings : (P Q : Bytes → Type 0) (r s : Result ℕ Fault) (rows rows' rows'' : List Row) → ((t : Bytes) → P t → Q t) → ((t : Bytes) → Q t → P t) → Listed P r rows rows' → Listed Q s rows rows'' → (r ≡ s) × (rows' ≡ rows'')
same_listings P Q r s rows rows' rows'' f g a b =
    let e : a.texts ≡ b.texts = b.list.only a.texts (exactly_like P Q a.texts f g a.list.exactly) in
    let q : r ≡ s = a.answer ∙ ap (λ ts. answered (room (length rows) (length ts)) (length ts)) e ∙ sym b.answer in
    (q, a.filled ∙ (λ i. cond (is_ok (q i)) (fronted (map row_for (e i)) rows) rows) ∙ sym b.filled)
