-- What the calls that make runs promise.
--   Reached cs whole rs        all calls were answered, or, for want of memory, only the first of them
--   Told n before e            e was answered as what was stored then says
--   Whole n h c                the laws of the run h from an empty store, through n layers, that left c
--   RunLaws                    the laws of a run: from an empty store, or after another run
--   TwoRunLaws                 the laws of two runs on the same layers
--   RanOnTidy, LawfulRun       the calls cs of an adapter, answered rs, over a store that went from s to s': performed in turn, where the store is tidy; with the laws of a run, where they also export plain labels only
--   LawfulTwoRuns              the laws of two such runs, over tidy stores with as many layers below
use Rattle.std.specs.Prelude.{◌≡◌, ℕ, suc, ◌<◌, Bool, true, false, List, [], ◌++◌, length}
use Rattle.keys.specs.Text.{Bytes, PrefixText}
use Rattle.storage.specs.Contents.{Contents, Ascending}
use Rattle.runs.specs.declared.call.Call.{Call}
use Rattle.runs.specs.declared.call.Answer.{Answer}
use Rattle.runs.specs.Answers.{Answers}
use Rattle.storage.specs.declared.storage_sync.ReadableStorageTraits.{Ghosts}
use Rattle.runs.specs.Events.{Event, Run, Every, Split, events}
use Rattle.runs.specs.Laws.{PlainAsk, PlainCalls, Lawful, Alike, Unrefused, SameOn}
use Rattle.runs.specs.Performed.{Ran}

pub record Reached (cs : List Call) (whole : Bool) (rs : List Answer) : Type 0 where
  pub all : whole ≡ true → length rs ≡ length cs
  pub part : whole ≡ false → length rs < length cs

-- an event after those of before: the contents that the laws give there, and an answer as these say
pub record Told (n : ℕ) (before : Run) (e : Event) : Type 0 where
  pub stored : Contents
  pub ascends : Ascending stored
  pub lawful : Lawful before stored
  pub answered : Answers n e.ask e.reply stored

pub record Whole (n : ℕ) (h : Run) (c : Contents) : Type 0 where
  -- no exported label ends in ".tmp"
  pub plain : Every (λ e. PlainAsk e.ask) h
  pub ascends : Ascending c
  pub lawful : Lawful h c
  pub told : (before since : Run) (e : Event) → Split h before e since → Told n before e

-- a run h through n layers, of calls that export plain labels only, which found c and left c'
pub record RunLaws (n : ℕ) (c : Contents) (h : Run) (c' : Contents) : Type 0 where
  -- from an empty store
  pub alone : c ≡ [] → Whole n h c'
  -- after another run, which left c
  pub after : (earlier : Run) → Whole n earlier c → Whole n (earlier ++ h) c'
  -- the first two laws ask no more of that run than themselves
  pub lawful : (earlier : Run) → Lawful earlier c → Lawful (earlier ++ h) c'

-- a run h which found c and left c', and a run g which found d and left d', through n layers; of every prefix
pub record TwoRunLaws (n : ℕ) (c : Contents) (h : Run) (c' d : Contents) (g : Run) (d' : Contents) : Type 0 where
  -- from empty stores
  pub alone : (p : Bytes) → PrefixText p → c ≡ [] → d ≡ [] → Alike p h g → Unrefused h → Unrefused g → SameOn p h g c' d'
  -- after two other runs, which left c and d, wherever the four were cut
  pub after :
      (p : Bytes)
      → PrefixText p
      → (earlier before : Run)
      → Whole n earlier c
      → Whole n before d
      → Alike p (earlier ++ h) (before ++ g)
      → Unrefused (earlier ++ h)
      → Unrefused (before ++ g)
      → SameOn p (earlier ++ h) (before ++ g) c' d'
  -- from stores that are the same there, after runs that answered the same there
  pub onward :
      (p : Bytes)
      → PrefixText p
      → (earlier before : Run)
      → SameOn p earlier before c d
      → Alike p h g
      → Unrefused h
      → Unrefused g
      → SameOn p (earlier ++ h) (before ++ g) c' d'

abbrev pub RanOnTidy : {S : Type 0} → Ghosts S → List Call → List Answer → S → S → Type 0
RanOnTidy m cs rs s s' = m.tidy ≡ true → Ran (suc m.layers) (m.contents s) (events cs rs) (m.contents s')

abbrev pub LawfulRun : {S : Type 0} → Ghosts S → List Call → List Answer → S → S → Type 0
LawfulRun m cs rs s s' = m.tidy ≡ true → PlainCalls cs → RunLaws (suc m.layers) (m.contents s) (events cs rs) (m.contents s')

abbrev pub LawfulTwoRuns : {S R : Type 0} → Ghosts S → Ghosts R → List Call → List Answer → S → S → List Call → List Answer → R → R → Type 0
LawfulTwoRuns m o cs rs s s' ds qs t t' =
    m.tidy ≡ true
    → o.tidy ≡ true
    → m.layers ≡ o.layers
    → TwoRunLaws (suc m.layers) (m.contents s) (events cs rs) (m.contents s') (o.contents t) (events ds qs) (o.contents t')
