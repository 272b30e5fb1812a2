use Rattle.std.proofs.Common.{rules}
use Rattle.extraction.proofs.Picks.{cut_rest, cut_part, cut_end}
use Rattle.extraction.proofs.cut.Goals as goal

pub returns-in-FromStart-default-None : goal.returns-in-FromStart-default-None
returns-in-FromStart-default-None c = search (rules, cut_rest)

pub returns-in-FromStart-default-Some : goal.returns-in-FromStart-default-Some
returns-in-FromStart-default-Some c = search (rules, cut_part)

pub returns-in-Suffix : goal.returns-in-Suffix
returns-in-Suffix c = search (rules, cut_end)
