-- What is claimed of every run.
use Rattle.std.specs.Prelude.{length}
use Rattle.flr_steps.specs.States.{IsRun, State}
use Rattle.flr_numbers.specs.Laws.{LeaveRoom}
use Rattle.flr_chunks.specs.Sentences.{AreFewMirrors, AllSettleWithin}

-- after a run no file has more mirrors than its script allows, where no run that isn't longer wants room
abbrev pub RunsHaveFewMirrors : Type 0
RunsHaveFewMirrors = (s : State) → IsRun s → LeaveRoom (length s.schedule) → AreFewMirrors s.script.most s.shared.meta

-- where that is so, the copies that settle after a run have no more chunks than there is room for
abbrev pub RunsSettleWithin : Type 0
RunsSettleWithin = RunsHaveFewMirrors → (s : State) → IsRun s → LeaveRoom (length s.schedule) → AllSettleWithin s
