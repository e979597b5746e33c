-- What is claimed of evictions and of lost cookies.
use Rattle.std.specs.Prelude.{length}
use Rattle.flr_steps.specs.States.{IsRun, State}
use Rattle.flr_numbers.specs.Laws.{LeaveRoom}
use Rattle.flr_evicted.specs.Sentences.{Explained}

-- after a run evictions and lost cookies are explained, where no run that isn't longer wants room
abbrev pub RunsExplain : Type 0
RunsExplain = (s : State) → IsRun s → LeaveRoom (length s.schedule) → Explained s
