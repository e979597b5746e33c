-- What is claimed of steps and runs.
use Rattle.std.specs.Prelude.{ℕ, ◌≤◌, length}
use Rattle.script_values.specs.Scripts.{ScriptView, IsScript}
use Rattle.flr_steps.specs.Conditions.{NextFits}
use Rattle.flr_steps.specs.States.{IsRun, State, start}
use Rattle.flr_steps.specs.Steps.{StepIs}
use Rattle.flr_numbers.specs.Sentences.{HasRoom, Holds}

-- before any step everybody holds what he is to
abbrev pub StartHolds : Type 0
StartHolds = (script : ScriptView) → IsScript script → Holds (start script)

-- and each step for which there is room leaves it so
abbrev pub StepsHold : Type 0
StepsHold = (s t : State) (c : ℕ) → Holds s → HasRoom s.shared → StepIs s c t → Holds t

-- in a state in which everybody holds what he is to, and there is room, each client's next step finds what it wants
abbrev pub StepsFit : Type 0
StepsFit = (s : State) → Holds s → HasRoom s.shared → (c : ℕ) → NextFits s c

-- every run of at most so many places leaves room
abbrev pub LeaveRoom : ℕ → Type 0
LeaveRoom places = (s : State) → IsRun s → length s.schedule ≤ places → HasRoom s.shared

-- after a run everybody holds what he is to, where no run that isn't longer wants room
abbrev pub RunsHold : Type 0
RunsHold = (s : State) → IsRun s → LeaveRoom (length s.schedule) → Holds s

-- and each client's next step finds what it wants
abbrev pub RunsFit : Type 0
RunsFit = (s : State) → IsRun s → LeaveRoom (length s.schedule) → (c : ℕ) → NextFits s c
