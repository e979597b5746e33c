-- What a draw comes to.
use Rattle.std.specs.Prelude.{◌≡◌, ℕ, Bool, true, false}
use Rattle.flr_steps.specs.States.{State}
use Rattle.flr_soak.specs.Soaking.{IsFirst, NobodySteps}

-- the first client that could make a step made it, or nobody could and nothing has changed
abbrev pub StepsFirst : ℕ → ℕ → State → State → Bool → Type 0
StepsFirst clients draw old new true = (c : ℕ) × IsFirst clients draw old c new
StepsFirst clients draw old new false = (new ≡ old) × NobodySteps clients draw old clients
