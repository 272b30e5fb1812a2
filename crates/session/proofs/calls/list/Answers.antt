use Rattle.std.proofs.Common.{vec_items, refl, sym, ap, ◌∙◌, rules}
use Rattle.storage.specs.Contents.{keys_of}
use Rattle.listings.proofs.Gathers.{given_key, given_none}
use Rattle.session.proofs.Keys.{one_more, all_taken, none_taken}
use Rattle.session.specs.Calls.{listed}
use Rattle.session.proofs.calls.list.Goals as goal

pub loop-key-init : goal.loop-key-init
loop-key-init g c = (tt, tt, search rules, none_taken _ _ _ (search rules) (search rules))

pub loop-key-preserved : goal.loop-key-preserved
loop-key-preserved g c =
    let contents = g.S.ReadableStorageTraits.contents in
    let given = given_key (λ s. keys_of (contents s)) _ c.args.store.now _ _ c.in-Some.key c.loop-key.invariant.2 c.in-Some.ensures.steps.0 in
    (tt, tt, ap (λ b. b.now) c.in-Some.ensures.steps.1 ∙ c.loop-key.invariant.2, one_more (keys_of (contents c.args.store.now)) c.loop-key.key-iterator.next c.in-Some.key (vec_items c.loop-key.keys) (vec_items c.push.new.self) _ given.0 c.loop-key.invariant.3 c.in_ok-push.ensures.items given.1)

pub returns : goal.returns
returns g c =
    let contents = g.S.ReadableStorageTraits.contents in
    let none = given_none (λ s. keys_of (contents s)) _ c.args.store.now _ _ c.loop-key.invariant.2 c.in-None.ensures.steps.0 in
    listed c.loop-key.keys (all_taken (keys_of (contents c.args.store.now)) c.loop-key.key-iterator.next (vec_items c.loop-key.keys) none c.loop-key.invariant.3) refl
