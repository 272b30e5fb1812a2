use Rattle.std.proofs.Common.{arith}
use Rattle.keys.specs.StorePrefixes.{prefix_text}
use Rattle.listings.proofs.ListingAnswers.{listed_short, listed_room, spacious}
use Rattle.listings.proofs.listing.gathered.Goals as goal

pub fill-requires : goal.fill-requires
fill-requires g c =
    spacious c.args.selection (prefix_text c.args.prefix.now) (g.S.ReadableStorageTraits.contents c.args.store.now) c.count-found.result c.args.rows.now c.count-found.ensures (omega (arith, c.if-found-rows.false))

pub returns-then-found-rows : goal.returns-then-found-rows
returns-then-found-rows g c =
    listed_short c.args.selection (prefix_text c.args.prefix.now) (g.S.ReadableStorageTraits.contents c.args.store.now) c.count-found.result c.args.rows.now _ c.count-found.ensures (omega (arith, c.if-found-rows.true)) c.own.ensures

pub returns : goal.returns
returns g c =
    listed_room c.args.selection (prefix_text c.args.prefix.now) (g.S.ReadableStorageTraits.contents c.args.store.now) c.count-found.result c.args.rows.now _ c.count-found.ensures (omega (arith, c.if-found-rows.false)) c.fill.ensures
