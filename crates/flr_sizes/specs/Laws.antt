-- What is claimed of every run.
use Rattle.std.specs.Prelude.{ℕ, ◌≤◌, List, length}
use Rattle.std.specs.List.{AllByRecursion}
use Rattle.script_values.specs.Scripts.{ScriptView, all_commands}
use Rattle.script_values.specs.Work.{greatest_end}
use Rattle.meta_server.specs.Files.{File}
use Rattle.flr_steps.specs.States.{IsRun, State}
use Rattle.flr_numbers.specs.Laws.{LeaveRoom}

-- where the files of a script end at most: at the greatest end that a command writes or cuts to
abbrev pub end_of_script : ScriptView → ℕ
end_of_script script = greatest_end (all_commands script.clients)

-- no file is longer than that
abbrev pub AreShort : ℕ → List File → Type 0
AreShort most files = AllByRecursion (λ (f : File). f.size ≤ most) files

-- after a run no file is longer than the script makes one, where no run that isn't longer wants room
abbrev pub RunsAreShort : Type 0
RunsAreShort = (s : State) → IsRun s → LeaveRoom (length s.schedule) → AreShort (end_of_script s.script) s.shared.meta.files
