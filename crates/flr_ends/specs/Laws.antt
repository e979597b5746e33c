-- What is claimed of every run.
use Rattle.std.specs.Prelude.{◌≡◌, ◌+◌, ◌≤◌, length}
use Rattle.script_values.specs.Scripts.{ScriptView, work_of}
use Rattle.flr_steps.specs.States.{State, IsRun}
use Rattle.flr_work.specs.Known.{IsKnown}

-- where this is known of every state of a script's runs that has at most one place more than the script has work, no run is longer than that work
abbrev pub RunsEnd : Type 0
RunsEnd = (script : ScriptView) → ((s : State) → IsRun s → s.script ≡ script → length s.schedule ≤ work_of script + 1 → IsKnown s) → (s : State) → IsRun s → s.script ≡ script → length s.schedule ≤ work_of script
