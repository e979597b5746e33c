-- What is claimed of the start, of each step and of every run.
use Rattle.std.specs.Prelude.{ℕ}
use Rattle.script_values.specs.Scripts.{ScriptView}
use Rattle.flr_steps.specs.States.{IsRun, State, start}
use Rattle.flr_steps.specs.Steps.{StepIs}
use Rattle.flr_asked.specs.Sentences.{AreAsked}

-- before any step no call is under way
abbrev pub StartAsksSo : Type 0
StartAsksSo = (script : ScriptView) → AreAsked (start script)

-- each step leaves each call one of its command
abbrev pub StepsAskSo : Type 0
StepsAskSo = (s t : State) (c : ℕ) → AreAsked s → StepIs s c t → AreAsked t

-- so it is after every run
abbrev pub RunsAskSo : Type 0
RunsAskSo = (s : State) → IsRun s → AreAsked s
