-- Schedules: the clients that made the steps, in order.
use Rattle.std.specs.Prelude.{◌≡◌, ℕ, List, [], ◌∷◌, ◌++◌, length, nat_lt, if◌then◌else◌, Option, Some, None}
use Rattle.turn_cell.specs.declared.stepped.StepAnswer.{StepAnswer}
use Rattle.turn_cell.specs.declared.stepped.StepAnswer.TheVariants.{Stepped}

-- the schedule begins with this one
abbrev pub IsFront : List ℕ → List ℕ → Type 0
IsFront front schedule = (rest : List ℕ) × (schedule ≡ front ++ rest)

-- the client that was asked for, if the answer is a step
abbrev pub stepped_client : ℕ → StepAnswer → Option ℕ
stepped_client client Stepped = Some client
stepped_client client _ = None

-- the schedule, with one more place where a client stepped
abbrev pub schedule_with : List ℕ → Option ℕ → List ℕ
schedule_with schedule None = schedule
schedule_with schedule (Some client) = schedule ++ client ∷ []

-- the schedule after an answer: a step appends the client, and every other answer leaves it
abbrev pub schedule_after : List ℕ → ℕ → StepAnswer → List ℕ
schedule_after schedule client answer = schedule_with schedule (stepped_client client answer)

-- the longer of two schedules, the first where they are equally long
abbrev pub longer : List ℕ → List ℕ → List ℕ
longer first second = if nat_lt (length first) (length second) then second else first

-- the other one
abbrev pub shorter : List ℕ → List ℕ → List ℕ
shorter first second = if nat_lt (length first) (length second) then first else second
