-- What a call leaves in a buffer that it fills from the front.
use Rattle.std.specs.Prelude.{List, ◌++◌, length, drop}

-- a list with its front replaced
abbrev pub fronted : {X : Type 0} → List X → List X → List X
fronted new old = new ++ drop (length new) old
