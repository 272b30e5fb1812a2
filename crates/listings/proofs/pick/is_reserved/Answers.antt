use Rattle.std.proofs.Common.{rules, tests}
use Rattle.std.proofs.lemmas.Iterator.Search.{any_from_yields_List}
use Rattle.std.proofs.lemmas.Iterator.Splits.{YieldsList-from_slice_split}
use Rattle.listings.proofs.Components.{is_slash, marked, reserved_decides}
use Rattle.listings.proofs.pick.is_reserved.Goals as goal

pub returns : goal.returns
returns c =
    reserved_decides c.args.bytes.now c.any.result
    (any_from_yields_List marked _ _ c.any.result c.any.ensures.ran
    (YieldsList-from_slice_split _ is_slash c.args.bytes.now c.split.ensures.rest c.split.ensures.done c.split.ensures.closure (λ x b q k. search (rules, tests)))
    (λ x b q k. search (rules, tests)))
