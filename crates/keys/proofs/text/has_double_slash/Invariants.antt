use Rattle.std.proofs.Common.{◌≡◌, ◌-◌, ◌+◌, ◌≤◌, length, drop}
use Rattle.std.specs.Slice.Iter.{windows_size, windows_rest}
use Rattle.keys.specs.Texts.{Apart}
use Rattle.keys.proofs.text.has_double_slash.Given as goal

abbrev pub invariant-loop-pair : goal.invariant-loop-pair
invariant-loop-pair l =
    let rest = windows_rest l.pair-iterator in
    let i = length l.text - length rest in
    (windows_size l.pair-iterator ≡ 2) × (length rest ≤ length l.text) × (rest ≡ drop i l.text) × Apart l.text (i + 1)
