-- A text in an array with zeros behind it.
use Rattle.std.specs.Prelude.{◌≡◌, ℕ, ◌+◌, ◌-◌, ◌≤◌, [], ◌++◌, length, take, drop, replicate, refl}
use Rattle.std.proofs.Common.{sym, ap, ◌∙◌, arith, length-append}
use Rattle.std.proofs.lemmas.List.{take_at, drop_at, drop-replicate, length-replicate, append-nil, length-take-le, take-append-drop}
use Rattle.keys.specs.Text.{Bytes, padded}

-- what two parts leave in an array of zeros
pub laid-padded : (n : ℕ) (f b out : Bytes) → out ≡ (f ++ b) ++ drop (length f + length b) (replicate n 0) → out ≡ padded n (f ++ b)
laid-padded n f b out e = e ∙ ap (λ z. (f ++ b) ++ z) (drop-replicate (length f + length b) n 0 ∙ ap (λ k. replicate (n - k) 0) (sym (length-append f b)))

pub laid_one : (n : ℕ) (f out : Bytes) → out ≡ (f ++ []) ++ drop (length f + 0) (replicate n 0) → out ≡ padded n f
laid_one n f out e = laid-padded n f [] out e ∙ ap (λ z. padded n z) (append-nil f)

pub take-padded : (n : ℕ) (t out : Bytes) → out ≡ padded n t → take (length t) out ≡ t
take-padded n t out e = ap (λ z. take (length t) z) e ∙ take_at t _ (length t) refl

pub drop-padded : (n : ℕ) (t out : Bytes) → out ≡ padded n t → drop (length t) out ≡ replicate (n - length t) 0
drop-padded n t out e = ap (λ z. drop (length t) z) e ∙ drop_at t _ (length t) refl

pub length-padded : (n : ℕ) (t out : Bytes) → length t ≤ n → out ≡ padded n t → length out ≡ n
length-padded n t out l e = ap length e ∙ simp (length-append, length-replicate) (omega arith)

-- an array with zeros behind its first n bytes is known by these
pub unpadded : (n len : ℕ) (out : Bytes) → len ≤ n → length out ≡ n → drop len out ≡ replicate (n - len) 0 → (padded n (take len out) ≡ out) × (length (take len out) ≡ len)
unpadded n len out l whole e =
    let m : length (take len out) ≡ len = length-take-le len out (omega arith) in (
      ap (λ k. take len out ++ replicate (n - k) 0) m ∙ ap (λ z. take len out ++ z) (sym e) ∙ take-append-drop len out,
      m,
    )

-- what two parts leave in an array of zeros keeps what a short text owes
pub laid_short : (n : ℕ) (f b out : Bytes) → length f + length b ≤ n → out ≡ (f ++ b) ++ drop (length f + length b) (replicate n 0) → (length f + length b ≤ n) × (length out ≡ n) × (drop (length f + length b) out ≡ replicate (n - (length f + length b)) 0)
laid_short n f b out l e =
    let m : length (f ++ b) ≡ length f + length b = length-append f b in
    let p : out ≡ padded n (f ++ b) = laid-padded n f b out e in (
      l,
      length-padded n (f ++ b) out (omega arith) p,
      ap (λ k. drop k out) (sym m) ∙ drop-padded n (f ++ b) out p ∙ ap (λ k. replicate (n - k) 0) m,
    )

pub laid_text : (n : ℕ) (f b out : Bytes) → out ≡ (f ++ b) ++ drop (length f + length b) (replicate n 0) → take (length f + length b) out ≡ f ++ b
laid_text n f b out e = ap (λ k. take k out) (sym (length-append f b)) ∙ take-padded n (f ++ b) out (laid-padded n f b out e)
