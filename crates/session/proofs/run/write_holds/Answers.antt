use Rattle.std.proofs.Common.{◌≡◌, ◌+◌, ◌++◌, ◌≤◌, length, vec_items, unwrap_or, sym, ap, ◌∙◌, rules, arith}
use Rattle.std.proofs.lemmas.List.{length-map}
use Rattle.std.proofs.lemmas.Result.{on_ok_weaker}
use Rattle.transcript.specs.Answers.{entry_line, total_line}
use Rattle.keys.specs.StoreKeys.{text}
use Rattle.storage.specs.Contents.{Entry, keys_of}
use Rattle.listings.proofs.Gathers.{given_key, given_none, no_key}
use Rattle.session.proofs.Holds.{here, sum_fits, one_line, next_line, all_lines, no_line}
use Rattle.session.proofs.run.write_holds.Goals as goal

pub loop-key-init : goal.loop-key-init
loop-key-init g c = (tt, tt, search rules, search rules, no_line _ _ _ (search rules))

pub overflow_add-bytes : goal.overflow_add-bytes
overflow_add-bytes g c =
    let contents = g.S.ReadableStorageTraits.contents in
    let s = g.met.S.ReadableStorageTraits.sound c.args.store.now in
    let given = given_key (λ s. keys_of (contents s)) _ c.args.store.now _ _ c.in-Some.key c.loop-key.invariant.2 c.in-Some.ensures.steps.0 in
    omega (arith, s.small, sum_fits (contents c.args.store.now) c.loop-key.key-iterator.next (text c.in-Some.key) c.unwrap_or-size.result c.loop-key.bytes s.ascends given.0 (c.unwrap_or-size.ensures ∙ ap (λ v. unwrap_or v 0) c.size_key.ensures) c.loop-key.invariant.4.sum)

pub overflow_add-count : goal.overflow_add-count
overflow_add-count g c =
    let contents = g.S.ReadableStorageTraits.contents in
    let s = g.met.S.ReadableStorageTraits.sound c.args.store.now in
    let given = given_key (λ s. keys_of (contents s)) _ c.args.store.now _ _ c.in-Some.key c.loop-key.invariant.2 c.in-Some.ensures.steps.0 in
    omega (arith, s.few, c.loop-key.invariant.3, here (contents c.args.store.now) c.loop-key.key-iterator.next (text c.in-Some.key) given.0)

pub loop-key-preserved : goal.loop-key-preserved
loop-key-preserved g c =
    let contents = g.S.ReadableStorageTraits.contents in
    let cs = contents c.args.store.now in
    let s = g.met.S.ReadableStorageTraits.sound c.args.store.now in
    let given = given_key (λ s. keys_of (contents s)) _ c.args.store.now _ _ c.in-Some.key c.loop-key.invariant.2 c.in-Some.ensures.steps.0 in (
      tt,
      tt,
      ap (λ b. b.now) c.in-Some.ensures.steps.1 ∙ c.loop-key.invariant.2,
      omega (arith, c.loop-key.invariant.3, given.1),
      next_line cs c.loop-key.key-iterator.next c.next.new.self.next (c.loop-key.bytes + c.unwrap_or-size.result) (vec_items c.args.out.now) (vec_items c.write_entry_line.new.out) given.1
          (one_line cs c.loop-key.key-iterator.next (text c.in-Some.key) c.unwrap_or-size.result c.loop-key.bytes (vec_items c.args.out.now) (vec_items c.loop-key.out) (vec_items c.write_entry_line.new.out) s.ascends given.0
          (c.unwrap_or-size.ensures ∙ ap (λ v. unwrap_or v 0) c.size_key.ensures)
          (c.in_ok-write_entry_line.ensures ∙ ap (λ t. vec_items c.loop-key.out ++ entry_line t c.unwrap_or-size.result) c.as_bytes.ensures)
          c.loop-key.invariant.4),
    )

pub returns : goal.returns
returns g c =
    let contents = g.S.ReadableStorageTraits.contents in
    let cs = contents c.args.store.now in
    let none = given_none (λ s. keys_of (contents s)) _ c.args.store.now _ _ c.loop-key.invariant.2 c.in-None.ensures.steps.0 in
    let l : length cs ≤ c.loop-key.key-iterator.next = omega (arith, no_key (keys_of cs) c.loop-key.key-iterator.next none, length-map cs (λ (x : Entry). x.key)) in
    on_ok_weaker c.write_total_line.result (λ e. all_lines cs c.loop-key.key-iterator.next c.loop-key.bytes (vec_items c.args.out.now) (vec_items c.loop-key.out) (vec_items c.write_total_line.new.out) l (e ∙ ap (λ m. vec_items c.loop-key.out ++ total_line m c.loop-key.bytes) c.loop-key.invariant.3) c.loop-key.invariant.4) c.write_total_line.ensures
