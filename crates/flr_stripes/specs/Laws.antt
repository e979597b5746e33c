-- What is claimed of every run.
use Rattle.std.specs.Prelude.{length}
use Rattle.flr_steps.specs.States.{IsRun, State}
use Rattle.flr_numbers.specs.Laws.{LeaveRoom}
use Rattle.flr_stripes.specs.Sentences.{AreShort, HoldFew}

-- after a run truncates have few tails, where no run that isn't longer wants room
abbrev pub RunsAreShort : Type 0
RunsAreShort = (s : State) → IsRun s → LeaveRoom (length s.schedule) → AreShort s

-- and copies have few objects in hand
abbrev pub RunsHoldFew : Type 0
RunsHoldFew = (s : State) → IsRun s → LeaveRoom (length s.schedule) → HoldFew s
