-- Clients that wait for one another.
use Rattle.std.specs.Prelude.{◌≡◌, ℕ, List, [], ◌∷◌, Some}
use Rattle.flr_steps.specs.Runs.{HasCommand}
use Rattle.flr_steps.specs.States.{State, after}
use Rattle.flr_claims.specs.Blocking.{IsWaiting}
use Rattle.flr_claims.specs.Claims.{CanStep}

-- the client waits for the first of these, each of them for the one behind it, and the last can make its next step; where there is none, the client can make its own
abbrev pub EndsInStep : State → ℕ → List ℕ → Type 0
EndsInStep s c [] = CanStep s c
EndsInStep s c (holder ∷ holders) = IsWaiting s c holder × EndsInStep s holder holders

-- the client waits for the first of these, each of them for the one behind it, and the last of all for this other one
abbrev pub WaitInTurn : State → ℕ → List ℕ → ℕ → Type 0
WaitInTurn s c [] other = IsWaiting s c other
WaitInTurn s c (holder ∷ holders) other = IsWaiting s c holder × WaitInTurn s holder holders other

-- there are steps more after which no client has a command left
pub record CanEnd (s : State) : Type 0 where
  pub rest : List ℕ
  pub last : State
  pub leads : after s rest ≡ Some last
  pub done : (c : ℕ) → HasCommand last c → ⊥
