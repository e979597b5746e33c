-- What is claimed of every run.
use Rattle.std.specs.Prelude.{length}
use Rattle.flr_steps.specs.States.{IsRun, State}
use Rattle.flr_numbers.specs.Laws.{LeaveRoom}
use Rattle.flr_pieces.specs.Sentences.{AreFew, AreLost}

-- after a run calls have few pieces, where no run that isn't longer wants room
abbrev pub RunsAreFew : Type 0
RunsAreFew = (s : State) → IsRun s → LeaveRoom (length s.schedule) → AreFew s

-- and a part is too old only with its cookie lost
abbrev pub RunsLose : Type 0
RunsLose = (s : State) → IsRun s → LeaveRoom (length s.schedule) → AreLost s
