use Rattle.std.proofs.Common.{◌≡◌, ◌+◌, ◌-◌, ◌<◌, true, false, length, vec_items, sym, ap, ◌∙◌, arith}
use Rattle.std.proofs.lemmas.List.{get_or_default}
use Rattle.keys.specs.StoreKeys.{text}
use Rattle.keys.specs.StorePrefixes.{prefix_text}
use Rattle.storage.specs.Contents.{under, without}
use Rattle.storage.proofs.Finds.{without_first}
use Rattle.storage.proofs.Prefixes.{under_decided}
use Rattle.memory_store.specs.declared.slot.Slot.{Slot}
use Rattle.memory_store.proofs.Removals.{none_pass, none_out, none_more}
use Rattle.memory_store.proofs.table.Table.remove_prefix.Goals as goal

pub loop-i-preserved-then-has_prefix : goal.loop-i-preserved-then-has_prefix
loop-i-preserved-then-has_prefix c =
    let p = prefix_text c.args.prefix.now in
    let ss = c.loop-i.self.slots in
    let next : c.loop-i.i ≡ c.loop-i.i - 1 + 1 = omega arith in
    let within : c.loop-i.i - 1 < length (vec_items ss) = omega (arith, ss.ok.0) in
    let same-slot = c.take_out.ensures.value ∙ get_or_default _ _ _ _ within ∙ sym c.index.ensures in
    let gone : under p (text c.take_out.result.key) ≡ true = ap (λ (s : Slot). under p (text s.key)) same-slot ∙ under_decided p _ true c.if-has_prefix.ensures in (
      omega arith,
      ap (without (under p)) c.take_out.ensures.contents ∙ without_first (under p) _ _ gone ∙ c.loop-i.invariant.1,
      none_out (under p) _ _ _ next within c.loop-i.invariant.2 _ c.take_out.ensures.slots,
    )

pub loop-i-preserved : goal.loop-i-preserved
loop-i-preserved c =
    let p = prefix_text c.args.prefix.now in
    let ss = c.loop-i.self.slots in
    let next : c.loop-i.i ≡ c.loop-i.i - 1 + 1 = omega arith in
    let within : c.loop-i.i - 1 < length (vec_items ss) = omega (arith, ss.ok.0) in (
      omega arith,
      c.loop-i.invariant.1,
      none_more (under p) _ _ _ next within c.loop-i.invariant.2 _ c.index.ensures (under_decided p _ false c.if-has_prefix.ensures),
    )

pub returns : goal.returns
returns c =
    let p = prefix_text c.args.prefix.now in
    sym (none_pass (under p) _ _ (λ j d l. c.loop-i.invariant.2 j d (omega arith) l)) ∙ c.loop-i.invariant.1
