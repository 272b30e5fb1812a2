use Rattle.std.proofs.Common.{arith}
use Rattle.keys.specs.StorePrefixesLemmas.{prefix_rule}
use Rattle.keys.specs.Texts.{final_slash}
use Rattle.listings.proofs.ListingAnswers.{dir_few_keys, dir_few_prefixes, dir-filled}
use Rattle.listings.proofs.listing.gathered_dir.Goals as goal

pub returns-then-found-keys : goal.returns-then-found-keys
returns-then-found-keys g c =
    dir_few_keys _ (g.S.ReadableStorageTraits.contents c.args.store.now) (final_slash _ (prefix_rule c.args.prefix.now)) c.count.result c.count-2.result _ _ c.count.ensures c.count-2.ensures _ (omega (arith, c.if-found-keys.true)) c.own.ensures

pub returns-then-found-prefixes : goal.returns-then-found-prefixes
returns-then-found-prefixes g c =
    dir_few_prefixes _ (g.S.ReadableStorageTraits.contents c.args.store.now) (final_slash _ (prefix_rule c.args.prefix.now)) c.count.result c.count-2.result _ _ c.count.ensures c.count-2.ensures _ (omega (arith, c.if-found-keys.false)) (omega (arith, c.if-found-prefixes.true)) c.own-then-found-prefixes.ensures

pub returns : goal.returns
returns g c =
    dir-filled _ (g.S.ReadableStorageTraits.contents c.args.store.now) (final_slash _ (prefix_rule c.args.prefix.now)) c.count.result c.count-2.result _ _ c.count.ensures c.count-2.ensures _ _ (omega (arith, c.if-found-keys.false)) (omega (arith, c.if-found-prefixes.false)) c.fill.ensures c.fill-2.ensures
