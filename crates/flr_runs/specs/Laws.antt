-- What is claimed of every run.
use Rattle.std.specs.Prelude.{ℕ, ◌≤◌, length}
use Rattle.script_values.specs.Scripts.{work_of}
use Rattle.flr_steps.specs.Conditions.{NextFits}
use Rattle.flr_steps.specs.States.{IsRun, State}
use Rattle.flr_numbers.specs.Laws.{LeaveRoom}
use Rattle.flr_numbers.specs.Sentences.{HasRoom, Holds}

-- a run has at most as many places as its script has work
abbrev pub RunsAreShort : Type 0
RunsAreShort = (s : State) → IsRun s → length s.schedule ≤ work_of s.script

-- after every run all numbers leave room for any call
abbrev pub RunsHaveRoom : Type 0
RunsHaveRoom = (s : State) → IsRun s → HasRoom s.shared

-- so all runs of at most so many places leave room, however many these are
abbrev pub RunsLeaveRoom : Type 0
RunsLeaveRoom = (places : ℕ) → LeaveRoom places

-- after every run everybody holds what he is to
abbrev pub EverybodyHolds : Type 0
EverybodyHolds = (s : State) → IsRun s → Holds s

-- and each client's next step finds what it wants of its command and of the servers
abbrev pub NextStepsFit : Type 0
NextStepsFit = (s : State) → IsRun s → (c : ℕ) → NextFits s c
