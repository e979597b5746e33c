-- What is claimed of the victims of copies.
use Rattle.std.specs.Prelude.{ℕ, length}
use Rattle.script_values.specs.Scripts.{ScriptView}
use Rattle.flr_steps.specs.States.{IsRun, State, start}
use Rattle.flr_steps.specs.Steps.{StepIs}
use Rattle.flr_numbers.specs.Laws.{LeaveRoom}
use Rattle.flr_numbers.specs.Sentences.{HasRoom, Holds}
use Rattle.flr_bytes.specs.Victims.{HaveVictims}

-- before any step no copy is begun
abbrev pub StartHasVictims : Type 0
StartHasVictims = (script : ScriptView) → HaveVictims (start script)

-- each step for which there is room keeps it so
abbrev pub StepsKeepVictims : Type 0
StepsKeepVictims = (s t : State) (c : ℕ) → Holds s → HasRoom s.shared → HaveVictims s → StepIs s c t → HaveVictims t

-- so it is after a run, where no run that isn't longer wants room
abbrev pub RunsHaveVictims : Type 0
RunsHaveVictims = (s : State) → IsRun s → LeaveRoom (length s.schedule) → HaveVictims s
