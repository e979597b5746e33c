-- What is claimed of the bytes that each step leaves of the plain files.
use Rattle.std.specs.Prelude.{ℕ, length}
use Rattle.script_values.specs.Scripts.{ScriptView}
use Rattle.flr_steps.specs.States.{IsRun, State, start}
use Rattle.flr_steps.specs.Steps.{StepIs}
use Rattle.flr_numbers.specs.Laws.{LeaveRoom}
use Rattle.flr_numbers.specs.Sentences.{Holds}
use Rattle.flr_bytes.specs.Laws.{StepsClose, StepsKeepBytes, StepsKeepSizes, StepsKeepStore}
use Rattle.flr_bytes.specs.Readied.{CutsAreReadied}

-- before any step no truncate is under way
abbrev pub StartIsReadied : Type 0
StartIsReadied = (script : ScriptView) → CutsAreReadied (start script)

-- and each step leaves each truncate before its point a layout that was ready
abbrev pub StepsReady : Type 0
StepsReady = (s t : State) (c : ℕ) → Holds s → CutsAreReadied s → StepIs s c t → CutsAreReadied t

-- so it is after a run, where no run that isn't longer wants room
abbrev pub RunsReady : Type 0
RunsReady = (s : State) → IsRun s → LeaveRoom (length s.schedule) → CutsAreReadied s

-- where the plain files after a step are those before it, changed by its answer, and keep their names and sizes, each byte of a plain file stays but where a call closes it; and wherever the step's call had landed over a byte it still has, or closes it
abbrev pub BytesFollow : Type 0
BytesFollow = StepsKeepStore → StepsKeepSizes → StepsKeepBytes × StepsClose
