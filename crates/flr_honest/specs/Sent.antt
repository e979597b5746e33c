-- What is claimed of the start, and of which calls fail.
use Rattle.std.specs.Prelude.{length}
use Rattle.script_values.specs.Scripts.{ScriptView}
use Rattle.flr_steps.specs.States.{IsRun, State, start}
use Rattle.flr_steps.specs.Traces.{new_trace}
use Rattle.flr_work.specs.Paying.{AreListed}
use Rattle.flr_bytes.specs.Sent.{AreSent}

-- before any step nothing was sent
abbrev pub StartIsSent : Type 0
StartIsSent = (script : ScriptView) → AreSent (start script) (new_trace (length script.clients))

-- in every run each target has the calls that the script lists for it to fail
abbrev pub RunsAreListed : Type 0
RunsAreListed = (s : State) → IsRun s → AreListed s.script.fails s.shared.targets
