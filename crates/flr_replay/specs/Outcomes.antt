-- What the replay of an input comes to.
use Rattle.std.specs.Prelude.{◌⊎◌, ℕ, List, Option, None, Some, Vec}
use Rattle.std.specs.declared.alloc.Global.{Global}
use Rattle.script_values.specs.Scripts.{ScriptView}
use Rattle.script_values.specs.declared.runs.ClientRun.{ClientRun}
use Rattle.script_text.specs.Grammar.{SpellsReplay}
use Rattle.flr_steps.specs.Schedules.{IsTaken, places_of}
use Rattle.flr_steps.specs.States.{IsRun, State}
use Rattle.flr_replay.specs.declared.play.Played.{Played}
use Rattle.flr_replay.specs.declared.play.Played.TheVariants as played
use Rattle.flr_replay.specs.Replays.{IsRefusal, TellsLeft, TellsStop}

-- the script takes the schedule to this state, or a line tells why it doesn't
abbrev pub IsJudged : ScriptView → List ℕ → State → Option (Vec ℕ Global) → Type 0
IsJudged script schedule new None = IsTaken script schedule new
IsJudged script schedule new (Some line) = TellsStop script schedule line.items ⊎ TellsLeft script schedule line.items

-- the bytes spell a script and a schedule that leads to this state
pub record LeadsTo (bytes : List ℕ) (last : State) : Type 0 where
  pub script : ScriptView
  pub runs : List ClientRun
  pub spelled : SpellsReplay bytes script runs
  pub taken : IsTaken script (places_of runs) last
  pub run : IsRun last

abbrev pub IsOutcome : List ℕ → Played → Type 0
IsOutcome bytes (played.Whole world) = LeadsTo bytes world
IsOutcome bytes (played.Refused line) = IsRefusal bytes line.items
