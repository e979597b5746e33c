-- Whether a script takes a schedule, and where it doesn't.
use Rattle.std.specs.Prelude.{◌≡◌, ℕ, ◌+◌, List, replicate, Some, None, slice_get}
use Rattle.std.specs.List.{flat_map}
use Rattle.script_values.specs.declared.runs.ClientRun.{ClientRun}
use Rattle.script_values.specs.Scripts.{ScriptView}
use Rattle.flr_steps.specs.States.{State, Next, Stepped, Blocked, Finished, Unknown, next, after, start, state_at, unfinished_of}

-- the schedule of these stretches, in each of which one client steps so often
abbrev pub places_of : List ClientRun → List ℕ
places_of runs = flat_map (λ (r : ClientRun). replicate r.times r.client) runs

-- the schedule leads to this state, in which nobody has a command left
pub record IsTaken (script : ScriptView) (schedule : List ℕ) (last : State) : Type 0 where
  pub run : after (start script) schedule ≡ Some last
  pub finished : unfinished_of last ≡ None

-- why a step isn't made
pub data Why : Type 0 where
  IsUnknown : Why
  IsFinished : Why
  IsBlocked : (holder : ℕ) → Why

-- the next step isn't made, for this
abbrev pub Stops : Next → Why → Type 0
Stops (Stepped after) why = ⊥
Stops (Blocked holder) why = why ≡ IsBlocked holder
Stops Finished why = why ≡ IsFinished
Stops Unknown why = why ≡ IsUnknown

-- the schedule's first place whose step isn't made is this one, counted from 1, for this client, and for this
pub record IsStopped (script : ScriptView) (schedule : List ℕ) (place client : ℕ) (why : Why) : Type 0 where
  pub before : ℕ
  pub counted : place ≡ before + 1
  pub here : slice_get schedule before ≡ Some client
  pub state : State
  pub run : state_at script schedule before ≡ Some state
  pub stops : Stops (next state client) why

-- each step of the schedule is made, and at its end this client, the lowest such, has a command left
pub record IsCutShort (script : ScriptView) (schedule : List ℕ) (client : ℕ) : Type 0 where
  pub state : State
  pub run : after (start script) schedule ≡ Some state
  pub left : unfinished_of state ≡ Some client
