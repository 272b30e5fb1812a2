-- The adapter's contracts, as what a call owes to a run.
use Rattle.std.proofs.Common.{◌≡◌, ℕ, Bool, true, false, List, [], replicate, Some, None, Ok, Err, Option, Result, sym, refl, ap, ◌∙◌, subst}
use Rattle.std.proofs.lemmas.List.{length-replicate}
use Rattle.std.specs.Option.{option_map}
use Rattle.keys.specs.Text.{Bytes}
use Rattle.keys.specs.declared.row.Row.{Row}
use Rattle.keys.specs.Rows.{row_text, RowOf}
use Rattle.patches.specs.Patches.{laid_all}
use Rattle.patches.specs.declared.Patch.{Patch}
use Rattle.listings.specs.Listings.{row_for, Listed, DirListed}
use Rattle.listings.specs.declared.listing.StoreKeysPrefixes.{StoreKeysPrefixes}
use Rattle.storage.specs.Contents.{Contents, found, bytes_of, without}
use Rattle.storage.specs.Erasures.{RowRefused, ErasedMany}
use Rattle.storage.specs.Erasures as rows
use Rattle.storage.specs.Faults.{raised}
use Rattle.storage.specs.Writes.{Write, erase, after, Verdict}
use Rattle.storage.specs.Stores.{Wrote}
use Rattle.storage.specs.declared.fault.Fault.{Fault}
use Rattle.storage.specs.declared.storage_sync.ReadableStorageTraits.{Ghosts}
use Rattle.atomic_write.specs.Adapters.{over}
use Rattle.atomic_write.specs.Exports.{Exported, patch_export_no, LaidAndExported, PatchExported, raised_verdict}
use Rattle.atomic_write.specs.declared.atomic_write.AtomicWriteStorageAdapter.{AtomicWriteStorageAdapter}
use Rattle.atomic_write.specs.Exports as export
use Rattle.runs.specs.Events.{Reply, wrote, patched, rows_listed, dir_listed}
use Rattle.runs.specs.Performed.{ExportLeft, refused, unbegun, unfinished, finished, PatchLeft, asked, tried, EraseLeft, erased, kept, RowNo, no_key, below, ManyLeft, all, stopped}
use Rattle.runs.specs.Readings.{zeros, blank_rows, RowsInto}
use Rattle.runs.proofs.Steps.{none_some}

pub export_left : {S : Type 0} {m : Ghosts S} {k v : Bytes} {s s' : S} {r : Result (Unit {0}) Fault} → Exported m k v s s' r → ExportLeft k v (m.contents s) (m.contents s') r
export_left {m = m} (export.refused f q e) = refused f q (ap m.contents e)
export_left (export.unbegun f q v u) = unbegun f q u.0
export_left (export.unfinished f q v e) = unfinished f q e
export_left (export.finished q v e) = finished q e

-- the fault of a layer that passes the store's up
raised_of : (o : Option Fault) (f : Fault) → option_map raised o ≡ Some f → (g : Fault) × (f ≡ raised g)
raised_of None f e = none_some e
raised_of (Some g) f e = (g, cc)

row_no : (w : Row) (v : Verdict) (f : Fault) → RowRefused w (raised_verdict v) f → RowNo w f
row_no w v f (rows.no_key e k) = no_key e k
row_no w v f (rows.by_verdict g k q) = let h = raised_of (v (erase (row_text w))) g q in subst (RowNo w) (sym h.1) (below h.0 k)

module _ {S : Type 0} (m : Ghosts S) (a a' : AtomicWriteStorageAdapter S) (tidy : m.tidy ≡ true) where
  abbrev c : Contents
  c = m.contents a.storage

  abbrev c' : Contents
  c' = m.contents a'.storage

  -- an erasure that is forwarded
  pub erase_left : (t : Bytes → Bool) (w : Write) (r : Result (Unit {0}) Fault) → after false w c ≡ without t c → Wrote (over m.tidy m) w r a a' → EraseLeft t c c' (wrote r)
  erase_left t w (Ok u) e h = erased (h.accepted refl ∙ e)
  erase_left t w (Err f) e h =
      let g = raised_of (m.verdict a.storage w) f (h.tidily tidy).0 in
      subst (λ (x : Fault). EraseLeft t c c' (wrote (Err x))) (sym g.1) (kept g.0 (h.tidily tidy).1.0)

  pub many_left : (ws : List Row) (r : Result (Unit {0}) Fault) → ErasedMany (over m.tidy m) ws r a a' → ManyLeft ws c c' (wrote r)
  many_left ws (Ok u) h = all (h.accepted refl).0 (h.accepted refl).1
  many_left ws (Err f) h =
      let x = h.tidily tidy in
      subst (λ (y : Fault). ManyLeft ws c c' (wrote (Err y))) (sym x.index)
      (stopped x.before x.row x.behind x.cause x.parts x.keys (row_no x.row (m.verdict a'.storage) x.cause x.refused) x.erased)

-- an export of patches, with a work buffer of zeros
module _ {S : Type 0} (m : Ghosts S) (k d : Bytes) (ps : List Patch) (s s' : S) (n : ℕ) where
  abbrev old : Bytes
  old = bytes_of (found k (m.contents s))

  abbrev Left : Reply → Type 0
  Left a = PatchLeft k ps d n (m.contents s) (m.contents s') a

  laid_left : {work' shown : Bytes} {r : Result (Unit {0}) Fault} (o : Option Fault) → patch_export_no k d ps old n ≡ o → shown ≡ work' → LaidAndExported o m k (laid_all d ps old) s s' (zeros n) work' r → Left (patched r shown)
  laid_left (Some f) p q x = subst Left (sym (λ i. patched (x.0 i) ((q ∙ x.2) i))) (asked f p (ap m.contents x.1))
  laid_left {r = r} None p q x = subst Left (sym (ap (patched r) (q ∙ x.1))) (tried p (export_left x.0))

  pub patch_left : (work work' shown : Bytes) (r : Result (Unit {0}) Fault) → work ≡ zeros n → shown ≡ work' → PatchExported m k d ps s s' work work' r → Left (patched r shown)
  patch_left work work' shown r e q h =
      let x = subst (λ (y : Bytes). PatchExported m k d ps s s' y work' r) e h in
      laid_left (patch_export_no k d ps old n) refl q (subst (λ (y : ℕ). LaidAndExported (patch_export_no k d ps old y) m k (laid_all d ps old) s s' (zeros n) work' r) (length-replicate n 0) x)

-- rows put into the buffers of a call

pub rows_listed_lem : {P : Bytes → Type 0} {r : Result ℕ Fault} {rows shown : List Row} (blank made : List Row) → blank ≡ made → shown ≡ rows → Listed P r blank rows → RowsInto (λ r rows. Listed P r made rows) (rows_listed r shown)
rows_listed_lem {P} {r} {rows} {shown} blank made e s h =
    (r, rows, ap (rows_listed r) s, subst (λ (x : List Row). Listed P r x rows) e h)

pub dir_listed_lem : {p : Bytes} {c : Contents} {r : Result StoreKeysPrefixes Fault} {ks ps shown seen : List Row} (blank made blanks written : List Row) → blank ≡ made → blanks ≡ written → shown ≡ ks → seen ≡ ps → DirListed p c r blank ks blanks ps → (q : Result StoreKeysPrefixes Fault) × (a : List Row) × (b : List Row) × (dir_listed r shown seen ≡ dir_listed q a b) × DirListed p c q made a written b
dir_listed_lem {p} {c} {r} {ks} {ps} {shown} {seen} blank made blanks written e f s t h =
    (r, ks, ps, (λ i. dir_listed r (s i) (t i)), subst (λ (x : List Row). DirListed p c r x ks written ps) e (subst (λ (x : List Row). DirListed p c r blank ks x ps) f h))

-- the row of a text is the one row that holds it
pub row_of : (t : Bytes) (w : Row) → RowOf t w → w ≡ row_for t
row_of t w h = (λ i. record { bytes = h.bytes i; len = h.long i })

pub all_blank : (n : ℕ) (w : Row) (rows : List Row) → RowOf [] w → rows ≡ replicate n w → rows ≡ blank_rows n
all_blank n w rows h e = e ∙ ap (replicate n) (row_of [] w h)
