use Rattle.std.proofs.Common.{◌≡◌, ℕ, ◌+◌, ◌-◌, List, ◌++◌, length, drop, sym, refl, append_assoc, arith}
use Rattle.std.proofs.lemmas.List.{take_at, drop_at, drop-drop}
use borrow.Rule.Slice.PartMut.{put_mid, post_of}
use Rattle.keys.proofs.buffer.lay.Goals as goal

laid : (f b o : List ℕ) (k m : ℕ) → k ≡ length b → m ≡ length f → put_mid (length f) k (f ++ post_of 0 m o) b ≡ (f ++ b) ++ drop (length f + length b) o
laid f b o k m p q =
    let n : m + k ≡ length f + length b = omega arith in
    rw (take_at f (drop m o) (length f) refl, drop_at f (drop m o) (length f) refl, drop-drop k m o, n) (sym (append_assoc f b (drop (length f + length b) o)))

put : (f b o x y : List ℕ) → x ≡ f → y ≡ b → put_mid (length f) (length f + length b - length f) (x ++ post_of 0 (length f - 0) o) y ≡ (f ++ b) ++ drop (length f + length b) o
put f b o x y p q = rw (p, q) (laid f b o (length f + length b - length f) (length f - 0) (omega arith) (omega arith))

pub returns : goal.returns
returns c =
    put
    c.args.front.now
    c.args.back.now
    c.args.out.now
    c.copy_from_slice.new.self
    c.copy_from_slice-2.new.self
    c.copy_from_slice.ensures.after
    c.copy_from_slice-2.ensures.after
