-- What is claimed of keys and cookies in steps and runs.
use Rattle.std.specs.Prelude.{ℕ, length}
use Rattle.script_values.specs.Scripts.{ScriptView}
use Rattle.flr_steps.specs.States.{IsRun, State, start}
use Rattle.flr_steps.specs.Steps.{StepIs}
use Rattle.flr_numbers.specs.Laws.{LeaveRoom}
use Rattle.flr_numbers.specs.Sentences.{HasRoom, Holds}
use Rattle.flr_places.specs.Sentences.{Placed}

-- before any step there is no key, and no file is open
abbrev pub StartPlaces : Type 0
StartPlaces = (script : ScriptView) → Placed (start script)

-- and each step for which there is room leaves each broken key with its place, and each cookie with its client
abbrev pub StepsPlace : Type 0
StepsPlace = (s t : State) (c : ℕ) → Holds s → HasRoom s.shared → Placed s → StepIs s c t → Placed t

-- after a run it is so, where no run that isn't longer wants room
abbrev pub RunsPlace : Type 0
RunsPlace = (s : State) → IsRun s → LeaveRoom (length s.schedule) → Placed s
