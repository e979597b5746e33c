-- A world that makes the steps of a schedule.
use Rattle.std.specs.Prelude.{◌≡◌, ℕ, List, ◌∷◌, [], ◌++◌, take, slice_get, Option, None, Some}
use Rattle.flr_steps.specs.Schedules.{IsBlocked, IsFinished, IsUnknown, Stops}
use Rattle.flr_steps.specs.Schedules as schedules
use Rattle.flr_steps.specs.States.{State, next}
use Rattle.flr_replay.specs.declared.follow.Stop.{Stop}
use Rattle.flr_replay.specs.declared.follow.Why.{Why}
use Rattle.flr_replay.specs.declared.follow.Why.TheVariants as why

-- why a step isn't made, as a schedule's refusal tells it
abbrev pub cause_of : Why → schedules.Why
cause_of why.Unknown = IsUnknown
cause_of why.Finished = IsFinished
cause_of (why.Blocked holder) = IsBlocked holder

-- the client made its step, or it made none for this, and nothing has changed
abbrev pub StepOf : ℕ → State → State → Option Why → Type 0
StepOf client old new None = new.schedule ≡ old.schedule ++ client ∷ []
StepOf client old new (Some told) = (new ≡ old) × Stops (next old client) (cause_of told)

-- so many places of the schedule were made, and the client of the next one made no step, for this
pub record StopsAt (schedule : List ℕ) (old new : State) (stop : Stop) : Type 0 where
  pub before : ℕ
  pub made : new.schedule ≡ old.schedule ++ take before schedule
  pub here : slice_get schedule before ≡ Some stop.client
  pub stops : Stops (next new stop.client) (cause_of stop.why)

-- all places of the schedule were made, or those before the first that wasn't
abbrev pub Follows : List ℕ → State → State → Option Stop → Type 0
Follows schedule old new None = new.schedule ≡ old.schedule ++ schedule
Follows schedule old new (Some stop) = StopsAt schedule old new stop
