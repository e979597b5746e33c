-- What holds at the start and is kept by each step holds of every run.
use Rattle.std.proofs.Common.{◌≡◌, ℕ, List, [], ◌∷◌, refl, subst}
use Rattle.std.specs.Prelude.{Some}
use Rattle.std.specs.Option.{option_and_then}
use Rattle.flr_steps.specs.States.{State, Next, Stepped, Blocked, Finished, Unknown, next, after, state_of}
use Rattle.flr_steps.specs.Steps.{StepIs}
use Rattle.flr_steps.proofs.Inversion.{step_is}

module _ (P : State → Type 0) (keeps : (s t : State) (c : ℕ) → P s → StepIs s c t → P t) where
  step_by : (cs : List ℕ) (s t : State) (c : ℕ) → P s → (n : Next) → next s c ≡ n → ((mid : State) → P mid → after mid cs ≡ Some t → P t) → option_and_then (λ mid. after mid cs) (state_of n) ≡ Some t → P t
  step_by cs s t c p (Stepped mid) is rest e = rest mid (keeps s mid c p (step_is s mid c is)) e
  step_by cs s t c p (Blocked holder) is rest e = absurd cc
  step_by cs s t c p Finished is rest e = absurd cc
  step_by cs s t c p Unknown is rest e = absurd cc

  -- the induction over schedules
  pub always : (cs : List ℕ) (s t : State) → P s → after s cs ≡ Some t → P t
  always [] s t p e = let same : s ≡ t = cc in subst P same p
  always (c ∷ cs) s t p e = step_by cs s t c p (next s c) refl (λ mid q m. always cs mid t q m) e
