-- What contracts see of seats and of turns.
use Rattle.std.specs.Prelude.{◌≡◌, ℕ, ◌^◌, ◌<◌, Bool, false, List, [], length, Option, Some, None}
use Rattle.atomic_table.specs.Seated.{TableId}
use Rattle.turn_cell.specs.Schedules.{IsFront, schedule_with}
use Rattle.turn_cell.specs.Places.{places_with}

-- a seat: its cell, the origin of the cell's value, the schedule that it has seen, the places that it made, and how often it found that another seat had the turn
pub record SeatView (O : Type 0) : Type 0 where
  pub cell : TableId
  pub origin : Option O
  pub seen : List ℕ
  pub mine : List ℕ
  pub busy : ℕ

-- a turn: what its seat had seen and made when it got the turn, the value's origin, its schedule now, the client that stepped, and whether the value was asked
pub record TurnView (O : Type 0) : Type 0 where
  pub cell : TableId
  pub origin : O
  pub seen : List ℕ
  pub mine : List ℕ
  pub busy : ℕ
  pub schedule : List ℕ
  pub made : Option ℕ
  pub asked : Bool

-- a seat that has made no place and found nobody
abbrev pub new_seat : {O : Type 0} → TableId → Option O → List ℕ → SeatView O
new_seat cell origin seen = record { cell = cell; origin = origin; seen = seen; mine = []; busy = 0 }

-- the seat as it was, but that it found another seat with the turn
pub record FoundBusy {O : Type 0} (old new : SeatView O) : Type 0 where
  pub cell : new.cell ≡ old.cell
  pub origin : new.origin ≡ old.origin
  pub seen : new.seen ≡ old.seen
  pub mine : new.mine ≡ old.mine
  pub busy : old.busy < new.busy

-- the turn that a seat got: the schedule begins with what the seat had seen, all of it is seen now, and the value wasn't asked yet
pub record IsTurnOf {O : Type 0} (seat : SeatView O) (turn : TurnView O) : Type 0 where
  pub cell : turn.cell ≡ seat.cell
  pub origin : seat.origin ≡ Some turn.origin
  pub front : IsFront seat.seen turn.seen
  pub seen : turn.seen ≡ turn.schedule
  pub mine : turn.mine ≡ seat.mine
  pub busy : turn.busy ≡ seat.busy
  pub made : turn.made ≡ None
  pub asked : turn.asked ≡ false

-- the same turn, before and after the value was asked
pub record IsSameTurn {O : Type 0} (old new : TurnView O) : Type 0 where
  pub cell : new.cell ≡ old.cell
  pub origin : new.origin ≡ old.origin
  pub seen : new.seen ≡ old.seen
  pub mine : new.mine ≡ old.mine
  pub busy : new.busy ≡ old.busy

-- the seat after its turn: it has seen the value's schedule, and has the last place of it where a client stepped
pub record IsSeatAfter {O : Type 0} (turn : TurnView O) (seat : SeatView O) : Type 0 where
  pub cell : seat.cell ≡ turn.cell
  pub origin : seat.origin ≡ Some turn.origin
  pub seen : seat.seen ≡ turn.schedule
  pub grown : seat.seen ≡ schedule_with turn.seen turn.made
  pub mine : seat.mine ≡ places_with turn.mine seat.seen turn.made
  pub busy : seat.busy ≡ turn.busy
  pub few : length seat.seen < 2 ^ 32
