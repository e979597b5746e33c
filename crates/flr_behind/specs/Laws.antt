-- What is claimed of what calls know in steps and runs.
use Rattle.std.specs.Prelude.{ℕ, length}
use Rattle.script_values.specs.Scripts.{ScriptView}
use Rattle.flr_steps.specs.States.{IsRun, State, start}
use Rattle.flr_steps.specs.Steps.{StepIs}
use Rattle.flr_numbers.specs.Laws.{LeaveRoom}
use Rattle.flr_numbers.specs.Sentences.{HasRoom, Holds}
use Rattle.flr_behind.specs.Sentences.{Known}

-- before any step each call knows its file
abbrev pub StartKnows : Type 0
StartKnows = (script : ScriptView) → Known (start script)

-- and each step for which there is room leaves it so
abbrev pub StepsKnow : Type 0
StepsKnow = (s t : State) (c : ℕ) → Holds s → HasRoom s.shared → Known s → StepIs s c t → Known t

-- after a run it is so, where no run that isn't longer wants room
abbrev pub RunsKnow : Type 0
RunsKnow = (s : State) → IsRun s → LeaveRoom (length s.schedule) → Known s
