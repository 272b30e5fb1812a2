-- What readings and listings answer: it follows from the contents there, the layers, and what is asked.
--   zeros, blank_notes, blank_rows     the buffers that a run makes
--   Reads n q c x                      x answers q through n layers, where c is stored
use Rattle.std.specs.Prelude.{◌≡◌, ℕ, List, [], replicate, Option, Result, Ok}
use Rattle.std.specs.List.{slice_get}
use Rattle.keys.specs.Text.{Bytes}
use Rattle.keys.specs.declared.row.Row.{Row}
use Rattle.extraction.specs.Notes.{Note}
use Rattle.storage.specs.Contents.{Contents, found, keys_of, total, sized}
use Rattle.storage.specs.Readings.{ValueRead, RangeRead, RangesRead}
use Rattle.storage.specs.declared.fault.Fault.{Fault}
use Rattle.listings.specs.Listings.{row_for, Stored, StoredUnder, Listed, DirListed, size_under}
use Rattle.listings.specs.declared.listing.StoreKeysPrefixes.{StoreKeysPrefixes}
use Rattle.runs.specs.Events.{Reading, size_key, get, get_partial, get_partial_many, key_at, list, list_prefix, list_dir, size_prefix, size, Readout, size_is, total_is, key_is, bytes_read, ranges_read, rows_listed, dir_listed}

abbrev pub zeros : ℕ → Bytes
zeros n = replicate n 0

abbrev pub blank_notes : ℕ → List Note
blank_notes n = replicate n (Ok (record { start = 0; len = 0 }))

abbrev pub blank_rows : ℕ → List Row
blank_rows n = replicate n (row_for [])

-- a reading into zeros, by what it answers and what the output holds then
abbrev pub ReadInto : (Result (Option ℕ) Fault → Bytes → Type 0) → Readout → Type 0
ReadInto P x = (r : Result (Option ℕ) Fault) × (out : Bytes) × (x ≡ bytes_read r out) × P r out

-- a listing into blank rows
abbrev pub RowsInto : (Result ℕ Fault → List Row → Type 0) → Readout → Type 0
RowsInto P x = (r : Result ℕ Fault) × (rows : List Row) × (x ≡ rows_listed r rows) × P r rows

abbrev pub Reads : ℕ → Reading → Contents → Readout → Type 0
Reads n (size_key k) c x = x ≡ size_is (sized (found k c))
Reads n (get k m) c x = ReadInto (λ r out. ValueRead n (found k c) r (zeros m) out) x
Reads n (get_partial k b m) c x = ReadInto (λ r out. RangeRead n (found k c) b r (zeros m) out) x
Reads n (get_partial_many k bs m l) c x =
    (r : Result (Option ℕ) Fault) × (out : Bytes) × (notes : List Note) × (x ≡ ranges_read r out notes) × RangesRead n (found k c) bs r (zeros m) out (blank_notes l) notes
Reads n (key_at i) c x = x ≡ key_is (slice_get (keys_of c) i)
Reads n (list m) c x = RowsInto (λ r rows. Listed (Stored c) r (blank_rows m) rows) x
Reads n (list_prefix p m) c x = RowsInto (λ r rows. Listed (StoredUnder p c) r (blank_rows m) rows) x
Reads n (list_dir p m l) c x =
    (r : Result StoreKeysPrefixes Fault) × (ks : List Row) × (ps : List Row) × (x ≡ dir_listed r ks ps) × DirListed p c r (blank_rows m) ks (blank_rows l) ps
Reads n (size_prefix p) c x = x ≡ total_is (size_under p c)
Reads n size c x = x ≡ total_is (total c)
