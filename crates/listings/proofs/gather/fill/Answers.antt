use Rattle.std.proofs.Common.{ap, ◌∙◌, refl, rules}
use Rattle.keys.specs.StorePrefixes.{prefix_text}
use Rattle.storage.specs.Contents.{keys_of}
use Rattle.listings.proofs.Gathers.{given_key, given_none}
use Rattle.listings.proofs.Fills.{fill_none, fill-next, fill_all}
use Rattle.listings.proofs.gather.fill.Goals as goal

pub loop-key-init : goal.loop-key-init
loop-key-init g c =
    (tt, tt, search rules, fill_none c.args.selection (prefix_text c.args.prefix.now) (keys_of (g.S.ReadableStorageTraits.contents c.args.store.now)) c.args.rows.now c.into_iter-key-iterator.result.next 0 (search rules) refl)

pub loop-key-preserved : goal.loop-key-preserved
loop-key-preserved g c =
    let contents = g.S.ReadableStorageTraits.contents in
    let given = given_key (λ s. keys_of (contents s)) _ c.args.store.now _ _ c.in-Some.key c.loop-key.invariant.2 c.in-Some.ensures.steps.0 in (
      tt,
      tt,
      ap (λ b. b.now) c.in-Some.ensures.steps.1 ∙ c.loop-key.invariant.2,
      fill-next c.args.selection (prefix_text c.args.prefix.now) (keys_of (contents c.args.store.now)) c.args.rows.now c.loop-key.key-iterator.next _ _ _ _ _ _ c.pick.result given.1
          (g.met.S.ReadableStorageTraits.sound c.args.store.now).ascends given.0 c.requires c.loop-key.invariant.3 c.pick.ensures c.put-len.ensures,
    )

pub returns : goal.returns
returns g c =
    let none = given_none (λ s. keys_of (g.S.ReadableStorageTraits.contents s)) _ c.args.store.now _ _ c.loop-key.invariant.2 c.in-None.ensures.steps.0 in
    fill_all c.args.selection (prefix_text c.args.prefix.now) _ c.args.rows.now c.loop-key.key-iterator.next _ _ none c.loop-key.invariant.3
