-- What is claimed of objects that were never made, of steps and runs.
use Rattle.std.specs.Prelude.{ℕ, length}
use Rattle.script_values.specs.Scripts.{ScriptView}
use Rattle.flr_steps.specs.States.{IsRun, State, start}
use Rattle.flr_steps.specs.Steps.{StepIs}
use Rattle.flr_numbers.specs.Laws.{LeaveRoom}
use Rattle.flr_numbers.specs.Sentences.{HasRoom, Holds}
use Rattle.flr_unmade.specs.Sentences.{Spared}

-- before any step they are empty
abbrev pub StartSpares : Type 0
StartSpares = (script : ScriptView) → Spared (start script)

-- and each step for which there is room leaves them so
abbrev pub StepsSpare : Type 0
StepsSpare = (s t : State) (c : ℕ) → Holds s → HasRoom s.shared → Spared s → StepIs s c t → Spared t

-- after a run they are, where no run that isn't longer wants room
abbrev pub RunsSpare : Type 0
RunsSpare = (s : State) → IsRun s → LeaveRoom (length s.schedule) → Spared s
