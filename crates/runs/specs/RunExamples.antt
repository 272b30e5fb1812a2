-- An export that the power fails between its steps, shown of the definitions: begun 1 = 0 + 1 + 0.
use Rattle.std.specs.Prelude.{◌≡◌, ℕ, [], ◌∷◌, Some, Err, codes}
use Rattle.std.specs.Option.{option_map}
use Rattle.keys.specs.Text.{Bytes}
use Rattle.storage.specs.Contents.{Contents}
use Rattle.storage.specs.Faults.{number, own, raised, at_step}
use Rattle.storage.specs.Writes.{Write, Verdict}
use Rattle.storage.specs.declared.fault.Cause.TheVariants.{Device, Exists}
use Rattle.layers.specs.Countdown.{counted}
use Rattle.runs.specs.Events.{set, wrote, Run}
use Rattle.runs.specs.Laws.{begun_in, finished_in, standing_in, cleared_in, any}
use Rattle.runs.specs.Performed.{Ran}

-- two exports of v under the label a: cut at step 2, and refused since the temporary stands
abbrev pub cut_run : Bytes → Run
cut_run v =
    record { ask = set (codes "a") v; reply = wrote (Err (at_step 2 (raised (own Device)))) }
    ∷ record { ask = set (codes "a") v; reply = wrote (Err (own Exists)) }
    ∷ []

-- the temporary of a, with v
abbrev pub cut_leaves : Bytes → Contents
cut_leaves v = record { key = codes "a.tmp"; value = v } ∷ []

pub record RunExamples : Type 0 where
  -- countdown 1 takes a write as the store below says, and then gives 10 to every write
  pub taken : (v : Verdict) (w : Write) → counted 1 v w ≡ option_map raised (v w)
  pub cut : (v : Verdict) (w : Write) → counted 0 v w ≡ Some (own Device)
  pub device : number Device ≡ 10
  -- so over an empty store the first export gets 10 at step 2 and leaves its temporary, and the next gets 7
  pub ran : (n : ℕ) (v : Bytes) → Ran n [] (cut_run v) (cut_leaves v)
  pub exists : number Exists ≡ 7
  pub begun : (v : Bytes) → begun_in any (cut_run v) ≡ 1
  pub finished : (v : Bytes) → finished_in any (cut_run v) ≡ 0
  pub standing : (v : Bytes) → standing_in any (cut_leaves v) ≡ 1
  pub cleared : (v : Bytes) → cleared_in any (cut_run v) ≡ 0
