use Rattle.std.proofs.Common.{◌≡◌, ◌+◌, ◌-◌, take, drop, Some, sym, ap, ◌∙◌, arith}
use Rattle.std.specs.Option.{option_map}
use Rattle.keys.specs.Text.{Bytes}
use Rattle.memory_store.proofs.Finding.{none_placed, value_ends, value_placed}
use Rattle.memory_store.proofs.table.Table.value.Goals as goal

pub returns-in_err-i : goal.returns-in_err-i
returns-in_err-i c =
    ap (option_map (λ x. x.now)) c.from_residual.ensures
    ∙ sym (none_placed c.args.self.now _ _ _ c.as_slice.ensures.value c.find.ensures (sym c.ok.ensures.value ∙ c.in_err-i.was))

pub overflow_add-result : goal.overflow_add-result
overflow_add-result c =
    let t = c.args.self.now in
    let e = value_ends t _ _ _ c.as_slice.ensures.value c.find.ensures c.in_ok-i.i _ _ (sym c.ok.ensures.value ∙ c.in_ok-i.was) c.start_of-at.ensures c.index.ensures in
    omega (arith, e, t.row.ok.0, t.small)

pub slice_bounds-result-end : goal.slice_bounds-result-end
slice_bounds-result-end c =
    let t = c.args.self.now in
    let e = value_ends t _ _ _ c.as_slice.ensures.value c.find.ensures c.in_ok-i.i _ _ (sym c.ok.ensures.value ∙ c.in_ok-i.was) c.start_of-at.ensures c.index.ensures in
    omega (arith, e, t.row.ok.0, c.as_slice-2.ensures.len)

pub returns : goal.returns
returns c =
    let n : c.start_of-at.result + c.index.result.now.len - c.start_of-at.result ≡ c.index.result.now.len = omega arith in
    ap (λ m. Some (take m (drop c.start_of-at.result c.as_slice-2.result.now))) n
    ∙ ap (λ (x : Bytes). Some (take c.index.result.now.len (drop c.start_of-at.result x))) c.as_slice-2.ensures.value
    ∙ value_placed c.args.self.now _ _ _ c.as_slice.ensures.value c.find.ensures c.in_ok-i.i _ _ (sym c.ok.ensures.value ∙ c.in_ok-i.was) c.start_of-at.ensures c.index.ensures
