-- What a try does, and what a worker and a crew come to.
use Rattle.std.specs.Prelude.{◌≡◌, ℕ, ◌+◌, ◌^◌, ◌<◌, ◌⊎◌, Bool, true, List, length, Some}
use Rattle.turn_cell.specs.declared.stepped.StepAnswer.{StepAnswer}
use Rattle.turn_cell.specs.declared.stepped.StepAnswer.TheVariants.{Finished, Unknown}
use Rattle.turn_cell.specs.Schedules.{IsFront, schedule_after, stepped_client}
use Rattle.turn_cell.specs.Places.{places_with}
use Rattle.turn_cell.specs.Seats.{SeatView, FoundBusy, new_seat}
use Rattle.turn_crew.specs.declared.tried.Tried.{Tried}
use Rattle.turn_crew.specs.declared.tried.Tried.TheVariants.{NotNow, Answer}

-- the seat as it was, but for how often it found another with the turn
pub record HasWaited {O : Type 0} (old new : SeatView O) : Type 0 where
  pub cell : new.cell ≡ old.cell
  pub origin : new.origin ≡ old.origin
  pub seen : new.seen ≡ old.seen
  pub mine : new.mine ≡ old.mine

-- the job of the client behind so many others, with a seat split off this one
abbrev pub IsJob : {O : Type 0} → SeatView O → ℕ → ℕ → SeatView O → Type 0
IsJob seat others client own = (client ≡ others + 1) × (own ≡ new_seat seat.cell seat.origin seat.seen)

module _ {O : Type 0} (allowed : O → List ℕ → ℕ → StepAnswer → Type 0) where
  -- The seat had a turn, in which the client got this answer, which is allowed for the value's origin and its schedule then. That began with what the seat had seen. The seat has seen the schedule after it, and has its last place where the client stepped.
  pub record HadTurn (old : SeatView O) (client : ℕ) (answer : StepAnswer) (new : SeatView O) : Type 0 where
    pub value_origin : O
    pub before : List ℕ
    pub same : old.origin ≡ Some value_origin
    pub cell : new.cell ≡ old.cell
    pub origin : new.origin ≡ old.origin
    pub front : IsFront old.seen before
    pub fits : allowed value_origin before client answer
    pub seen : new.seen ≡ schedule_after before client answer
    pub mine : new.mine ≡ places_with old.mine new.seen (stepped_client client answer)
    pub few : length new.seen < 2 ^ 32

  -- one try: another seat was found with the turn, or there was a turn with this answer
  abbrev pub HasTried : SeatView O → ℕ → Tried → SeatView O → Type 0
  HasTried old client NotNow new = FoundBusy old new
  HasTried old client (Answer answer) new = HadTurn old client answer new

  -- at a schedule between these two the client had no command left
  pub record HasEnded (origin : O) (from : List ℕ) (client : ℕ) (to : List ℕ) : Type 0 where
    pub at : List ℕ
    pub from_front : IsFront from at
    pub front : IsFront at to
    pub ended : allowed origin at client Finished ⊎ allowed origin at client Unknown

  -- the worker's seat has seen more; if the worker says so, its client has ended
  pub record HasWorked (old : SeatView O) (client : ℕ) (new : SeatView O) (says : Bool) : Type 0 where
    pub cell : new.cell ≡ old.cell
    pub origin : new.origin ≡ old.origin
    pub front : IsFront old.seen new.seen
    pub ended : says ≡ true → (o : O) × (old.origin ≡ Some o) × HasEnded o old.seen client new.seen
