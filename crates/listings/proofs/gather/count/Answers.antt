use Rattle.std.proofs.Common.{ap, ◌∙◌, refl, arith, rules}
use Rattle.std.proofs.lemmas.List.{length-map}
use Rattle.keys.specs.StorePrefixes.{prefix_text}
use Rattle.storage.specs.Contents.{keys_of}
use Rattle.listings.proofs.Gathers.{given_key, given_none, key_there, tally_none, tally_next, tally_all}
use Rattle.listings.proofs.gather.count.Goals as goal

pub loop-key-init : goal.loop-key-init
loop-key-init g c =
    let held = keys_of (g.S.ReadableStorageTraits.contents c.args.store.now) in
    let none = tally_none c.args.selection (prefix_text c.args.prefix.now) held c.into_iter-key-iterator.result.next _ (search rules) refl refl in
    (tt, tt, search rules, none.0, none.1, none.2)

pub with-tally-requires : goal.with-tally-requires
with-tally-requires g c =
    let contents = g.S.ReadableStorageTraits.contents in
    let held = contents c.args.store.now in
    let given = given_key (λ s. keys_of (contents s)) _ c.args.store.now _ _ c.in-Some.key c.loop-key.invariant.2 c.in-Some.ensures.steps.0 in
    omega (arith, c.loop-key.invariant.4, (key_there (keys_of held) c.loop-key.key-iterator.next _ given.0).0, length-map held (λ e. e.key), (g.met.S.ReadableStorageTraits.sound c.args.store.now).few)

pub loop-key-preserved : goal.loop-key-preserved
loop-key-preserved g c =
    let contents = g.S.ReadableStorageTraits.contents in
    let given = given_key (λ s. keys_of (contents s)) _ c.args.store.now _ _ c.in-Some.key c.loop-key.invariant.2 c.in-Some.ensures.steps.0 in
    let next =
    tally_next (keys_of (contents c.args.store.now)) c.loop-key.key-iterator.next _
    (g.met.S.ReadableStorageTraits.sound c.args.store.now).ascends given.0 c.args.selection (prefix_text c.args.prefix.now) c.loop-key.tally c.with-tally.result c.pick.result _ given.1
    c.loop-key.invariant.4 c.loop-key.invariant.5 c.pick.ensures c.with-tally.ensures
    in
    (tt, tt, ap (λ b. b.now) c.in-Some.ensures.steps.1 ∙ c.loop-key.invariant.2, next.0, next.1, next.2)

pub returns : goal.returns
returns g c =
    let none = given_none (λ s. keys_of (g.S.ReadableStorageTraits.contents s)) _ c.args.store.now _ _ c.loop-key.invariant.2 c.in-None.ensures.steps.0 in
    tally_all c.args.selection (prefix_text c.args.prefix.now) _ c.loop-key.key-iterator.next c.loop-key.tally none c.loop-key.invariant.5
