use Rattle.std.proofs.Common.{◌≡◌, true, false, ap, ◌∙◌, arith, rules}
use Rattle.keys.specs.StorePrefixes.{prefix_text}
use Rattle.storage.specs.Contents.{keys_of}
use Rattle.storage.proofs.Prefixes.{under_decided}
use Rattle.listings.specs.Listings.{size_under}
use Rattle.listings.proofs.Gathers.{given_key, given_none}
use Rattle.listings.proofs.Sums.{part_small, size_root, sum_none, sum_all, sum_more, sum_same}
use Rattle.listings.proofs.listing.added.Goals as goal

pub loop-key-init : goal.loop-key-init
loop-key-init g c =
    (tt, tt, search rules, sum_none (prefix_text c.args.prefix.now) (g.S.ReadableStorageTraits.contents c.args.store.now) c.into_iter-key-iterator.result.next (search rules))

pub overflow_add-size : goal.overflow_add-size
overflow_add-size g c =
    let p = prefix_text c.args.prefix.now in
    let contents = g.S.ReadableStorageTraits.contents in
    let held = contents c.args.store.now in
    let sound = g.met.S.ReadableStorageTraits.sound c.args.store.now in
    let given = given_key (λ s. keys_of (contents s)) _ c.args.store.now _ _ c.in-Some.key c.loop-key.invariant.2 c.in-Some.ensures.steps.0 in
    let more = sum_more p held sound.ascends c.loop-key.key-iterator.next _ given.0 c.next.new.self.next _ given.1 (under_decided p _ true c.if-has_prefix.ensures) c.value_len-size.ensures in
    omega (arith, c.loop-key.invariant.3, more, part_small p held c.next.new.self.next, sound.small)

pub loop-key-preserved-then-has_prefix : goal.loop-key-preserved-then-has_prefix
loop-key-preserved-then-has_prefix g c =
    let p = prefix_text c.args.prefix.now in
    let contents = g.S.ReadableStorageTraits.contents in
    let held = contents c.args.store.now in
    let sound = g.met.S.ReadableStorageTraits.sound c.args.store.now in
    let given = given_key (λ s. keys_of (contents s)) _ c.args.store.now _ _ c.in-Some.key c.loop-key.invariant.2 c.in-Some.ensures.steps.0 in
    let more = sum_more p held sound.ascends c.loop-key.key-iterator.next _ given.0 c.next.new.self.next _ given.1 (under_decided p _ true c.if-has_prefix.ensures) c.value_len-size.ensures in
    (tt, tt, ap (λ b. b.now) c.in-Some.ensures.steps.1 ∙ c.loop-key.invariant.2, omega (arith, c.loop-key.invariant.3, more))

pub loop-key-preserved : goal.loop-key-preserved
loop-key-preserved g c =
    let p = prefix_text c.args.prefix.now in
    let contents = g.S.ReadableStorageTraits.contents in
    let held = contents c.args.store.now in
    let sound = g.met.S.ReadableStorageTraits.sound c.args.store.now in
    let given = given_key (λ s. keys_of (contents s)) _ c.args.store.now _ _ c.in-Some.key c.loop-key.invariant.2 c.in-Some.ensures.steps.0 in
    (tt, tt, ap (λ b. b.now) c.in-Some.ensures.steps.1 ∙ c.loop-key.invariant.2, c.loop-key.invariant.3 ∙ sum_same p held sound.ascends c.loop-key.key-iterator.next _ given.0 c.next.new.self.next given.1 (under_decided p _ false c.if-has_prefix.ensures))

pub returns : goal.returns
returns g c =
    let p = prefix_text c.args.prefix.now in
    let contents = g.S.ReadableStorageTraits.contents in
    let held = contents c.args.store.now in
    let none = given_none (λ s. keys_of (contents s)) _ c.args.store.now _ _ c.loop-key.invariant.2 c.in-None.ensures.steps.0 in
    let all : c.loop-key.size ≡ size_under p held = c.loop-key.invariant.3 ∙ sum_all p held c.loop-key.key-iterator.next none in
    record { under = all; root = λ e. all ∙ ap (λ z. size_under z held) e ∙ size_root held }
