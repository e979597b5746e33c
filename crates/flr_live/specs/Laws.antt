-- What is claimed of clients that wait, in every run.
use Rattle.std.specs.Prelude.{ℕ, List}
use Rattle.flr_steps.specs.Runs.{HasCommand}
use Rattle.flr_steps.specs.States.{IsRun, State}
use Rattle.flr_claims.specs.Claims.{CanStep}
use Rattle.flr_live.specs.Sentences.{CanEnd, EndsInStep, WaitInTurn}

-- never stuck: after every run, while some client has a command left, some client can make its next step
abbrev pub NeverStuck : Type 0
NeverStuck = (s : State) (c : ℕ) → IsRun s → HasCommand s c → (d : ℕ) × CanStep s d

-- from each client that has a command left, those who wait for one another lead to one that can make its next step
abbrev pub EachWaitEnds : Type 0
EachWaitEnds = (s : State) (c : ℕ) → IsRun s → HasCommand s c → (holders : List ℕ) × EndsInStep s c holders

-- so no clients ever wait for one another in a circle
abbrev pub NoCircles : Type 0
NoCircles = (s : State) (c : ℕ) (others : List ℕ) → IsRun s → WaitInTurn s c others c → ⊥

-- so every run can be led to the end of all commands
abbrev pub EachRunCanEnd : Type 0
EachRunCanEnd = (s : State) → IsRun s → CanEnd s
