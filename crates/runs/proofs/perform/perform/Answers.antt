use Rattle.runs.proofs.perform.perform.Goals as goal

pub returns-in-Set : goal.returns-in-Set
returns-in-Set g c tidy = let is = c.in-Set.is in let v = c.as_slice.ensures.value in rw is (rw v at (c.set.ensures tidy))
