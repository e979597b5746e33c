-- What is claimed of the extent locks of steps and runs.
use Rattle.std.specs.Prelude.{ℕ, length}
use Rattle.script_values.specs.Scripts.{ScriptView}
use Rattle.flr_steps.specs.States.{IsRun, State, start}
use Rattle.flr_steps.specs.Steps.{StepIs}
use Rattle.flr_numbers.specs.Laws.{LeaveRoom}
use Rattle.flr_numbers.specs.Sentences.{HasRoom, Holds}
use Rattle.flr_locks.specs.Sentences.{Locked}

-- before any step the locks are those of the calls
abbrev pub StartLocks : Type 0
StartLocks = (script : ScriptView) → Locked (start script)

-- and each step for which there is room leaves them so
abbrev pub StepsLock : Type 0
StepsLock = (s t : State) (c : ℕ) → Holds s → HasRoom s.shared → Locked s → StepIs s c t → Locked t

-- after a run they are, where no run that isn't longer wants room
abbrev pub RunsLock : Type 0
RunsLock = (s : State) → IsRun s → LeaveRoom (length s.schedule) → Locked s
