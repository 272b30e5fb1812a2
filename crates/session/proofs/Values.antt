-- A value that is read into a buffer of its length.
use Rattle.std.proofs.Common.{◌≡◌, ℕ, ◌++◌, length, Some, None, Option, sym, ap, ◌∙◌, arith}
use Rattle.std.proofs.lemmas.List.{append-nil, drop_all}
use Rattle.keys.specs.Text.{Bytes}
use Rattle.ranges.specs.Buffers.{fronted}
use Rattle.storage.specs.Contents.{bytes_of, sized}

pub whole-read : (o : Option Bytes) (size : ℕ) (out out' : Bytes) → Some size ≡ sized o → length out ≡ size → out' ≡ fronted (bytes_of o) out → (o ≡ Some out') × (length out' ≡ size)
whole-read None size out out' e l p = absurd (let z : ◌≡◌ {A = ℕ} 0 1 = cc in omega arith)
whole-read (Some b) size out out' e l p =
    let s : size ≡ length b = cc in
    let d = drop_all (length b) out (omega arith) in
    let q : out' ≡ b = p ∙ (ap (λ t. b ++ t) d ∙ append-nil b) in
    (ap Some (sym q), ap length q ∙ sym s)
