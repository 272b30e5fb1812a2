-- What an offset write through the countdown comes to.
use Rattle.std.proofs.Common.{◌≡◌, ℕ, ◌<◌, Bool, true, false, List, length, is_ok, None, Ok, Err, Result, sym, refl, ap, ◌∙◌}
use Rattle.keys.specs.Text.{Bytes}
use Rattle.patches.specs.declared.Patch.{Patch}
use Rattle.storage.specs.Contents.{found, bytes_of}
use Rattle.storage.specs.Faults.{own, answered}
use Rattle.storage.specs.Stores.{WroteAt}
use Rattle.storage.specs.Writes.{patch, patched, patch_no, worked, OffsetWritten}
use Rattle.storage.specs.declared.fault.Cause.TheVariants.{Device}
use Rattle.storage.specs.declared.fault.Fault.{Fault}
use Rattle.storage.specs.declared.storage_sync.ReadableStorageTraits.{Ghosts}
use Rattle.storage.proofs.Order.{clash}
use Rattle.storage.proofs.OffsetWrites.{asked_yes, settled_from_offset, worked_from_offset, offset_from_settled, offset_refused, worked-length, worked_again}
use Rattle.layers.specs.Countdown.{counted, Counts}
use Rattle.layers.specs.Counts.{cut, through}

module _ {S : Type 0} (m : Ghosts S) (k d : Bytes) (ps : List Patch) (s : S) (work : Bytes) (n : ℕ) (b : Bool) (is : b ≡ m.inplace) where
  -- refused by its questions
  pub refused_first : (work₁ : Bytes) (f : Fault) → ◌≡◌ {A = Result (Unit {0}) Fault} (Err f) (answered (patch_no b d ps (bytes_of (found k (m.contents s))) (length work)) (tt {0})) → work₁ ≡ work
      → OffsetWritten {A = Unit {0}} m.tidy m.inplace k d ps (Err f) (m.contents s) (m.contents s) (counted n (m.verdict s)) (counted n (m.verdict s)) work work₁
  refused_first work₁ f h kept =
      offset_refused m.tidy m.inplace k d ps f (m.contents s) (counted n (m.verdict s)) work work₁
      (h ∙ ap (λ (p : Bool). answered (patch_no p d ps (bytes_of (found k (m.contents s))) (length work)) (tt {0})) is) kept

  -- the questions answered yes, and the new value, where it is needed, in the work buffer
  module _ (work₁ : Bytes) (h : ◌≡◌ {A = Result (Unit {0}) Fault} (Ok (tt {0})) (answered (patch_no b d ps (bytes_of (found k (m.contents s))) (length work)) (tt {0}))) (built : work₁ ≡ worked b (patched k d ps (m.contents s)) work) where
    asks : patch_no m.inplace d ps (bytes_of (found k (m.contents s))) (length work) ≡ None
    asks = ap (λ (p : Bool). patch_no p d ps (bytes_of (found k (m.contents s))) (length work)) (sym is) ∙ (asked_yes _ _ _ h).0

    there : work₁ ≡ worked m.inplace (patched k d ps (m.contents s)) work
    there = built ∙ ap (λ (p : Bool). worked p (patched k d ps (m.contents s)) work) is

    -- no write is left
    pub cut_offset : (f : Fault) → (n ≡ 0) × (f ≡ own Device)
        → OffsetWritten {A = Unit {0}} m.tidy m.inplace k d ps (Err f) (m.contents s) (m.contents s) (counted n (m.verdict s)) (counted n (m.verdict s)) work work₁
    cut_offset f z =
        offset_from_settled m.tidy m.inplace k d ps _ _ _ _ _ work work₁ asks (cut m (patch k d ps) n s f z) (λ e. clash false e refl) (λ _. there)

    -- some are left: what the store below said, counted
    module _ (j : ℕ) (s' s'' : S) (a r : Result (Unit {0}) Fault) (work₂ : Bytes) (left : 0 < n) (w : WroteAt m k d ps a s s' work₁ work₂) (kept : s'' ≡ s') (counts : Counts n j a r) where
      asks_below : patch_no m.inplace d ps (bytes_of (found k (m.contents s))) (length work₁) ≡ None
      asks_below =
          ap (patch_no m.inplace d ps (bytes_of (found k (m.contents s)))) (ap length there ∙ worked-length m.inplace d ps (bytes_of (found k (m.contents s))) work asks) ∙ asks

      again : worked m.inplace (patched k d ps (m.contents s)) work₁ ≡ worked m.inplace (patched k d ps (m.contents s)) work
      again = ap (worked m.inplace (patched k d ps (m.contents s))) there ∙ worked_again m.inplace d ps (bytes_of (found k (m.contents s))) work asks

      same_answer : (a r : Result (Unit {0}) Fault) → Counts n j a r → is_ok r ≡ true → is_ok a ≡ true
      same_answer (Ok u) r c e = refl
      same_answer (Err f) r c e = clash false (ap is_ok (sym c.1) ∙ e) refl

      pub through_offset : OffsetWritten m.tidy m.inplace k d ps r (m.contents s) (m.contents s'') (counted n (m.verdict s)) (counted j (m.verdict s'')) work work₂
      through_offset =
          offset_from_settled m.tidy m.inplace k d ps r _ _ _ _ work work₂ asks
          (through m (patch k d ps) n j s s' s'' a r left (settled_from_offset m.tidy m.inplace k d ps a _ _ _ _ work₁ work₂ asks_below w) kept counts)
          (λ e. (w.accepted (same_answer a r counts e)).1 ∙ again)
          (λ t. worked_from_offset m.tidy m.inplace k d ps a _ _ _ _ work₁ work₂ asks_below w t ∙ again)
