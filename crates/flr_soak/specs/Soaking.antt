-- The run that a generator of numbers makes.
use Rattle.std.specs.Prelude.{◌≡◌, ◌⊎◌, ℕ, ◌+◌, ◌%◌, ◌<◌, List, [], ◌∷◌, None, Some}
use Rattle.script_values.specs.Generator.{drawn, next_state, script_from, state_from}
use Rattle.flr_steps.specs.States.{State, Stepped, next, start, state_of, unfinished_of}

-- the client that is tried in this turn, counted from 0, at this draw
abbrev pub tried_in : ℕ → ℕ → ℕ → ℕ
tried_in clients draw turn = 1 + (draw + turn) % clients

-- those that are tried in so many first turns make no step
abbrev pub NobodySteps : ℕ → ℕ → State → ℕ → Type 0
NobodySteps clients draw s turns = (turn : ℕ) → turn < turns → state_of (next s (tried_in clients draw turn)) ≡ None

-- the client is the first of those tried at this draw that makes a step, which leads to this state
pub record IsFirst (clients draw : ℕ) (s : State) (c : ℕ) (t : State) : Type 0 where
  pub turn : ℕ
  pub few : turn < clients
  pub tried : c ≡ tried_in clients draw turn
  pub others : NobodySteps clients draw s turn
  pub made : next s c ≡ Stepped t

-- a command is left, the next draw is this one, and the client is the first that makes a step, which leads to this state
pub record IsDrawn (clients x : ℕ) (s : State) (c : ℕ) (t : State) : Type 0 where
  pub unfinished : ℕ
  pub left : unfinished_of s ≡ Some unfinished
  pub first : IsFirst clients (drawn (next_state x)) s c t

-- nobody has a command left, or nobody makes a step at the next draw
abbrev pub IsOver : ℕ → ℕ → State → Type 0
IsOver clients x s = (unfinished_of s ≡ None) ⊎ NobodySteps clients (drawn (next_state x)) s clients

-- from this state of the generator on the world makes these steps, one for each draw, and then it is over
abbrev pub IsSoaked : ℕ → ℕ → State → List ℕ → State → Type 0
IsSoaked clients x s [] last = (s ≡ last) × IsOver clients x s
IsSoaked clients x s (c ∷ cs) last = (mid : State) × IsDrawn clients x s c mid × IsSoaked clients (next_state x) mid cs last

-- the script that the numbers of a seed make, and the run that the numbers behind them make
pub record IsRunOf (seed clients calls : ℕ) (last : State) : Type 0 where
  pub schedule : List ℕ
  pub soaked : IsSoaked clients (state_from clients calls seed) (start (script_from clients calls seed)) schedule last
