-- What the last step of a call came to.
use Rattle.std.proofs.Common.{◌≡◌, ℕ, List, [], ◌∷◌, ◌++◌, Option, Some, None, sym, ap, ◌∙◌}
use Rattle.call_steps.specs.Runs.{CallStep, IsRun, IsRunOf, goes_on}
use Rattle.call_steps.specs.Servers.{Servers}
use Rattle.call_steps.specs.Steps.{Outcome}

module _ {C : Type 0} (step : C → ℕ → Servers → Outcome C) where
  last_by : (front : List (CallStep C)) (last : CallStep C) (call : Option C) (place : ℕ) → IsRunOf step (front ++ last ∷ []) call place → last.came ≡ step last.call last.place last.before
  last_by [] last None place run = absurd run
  last_by [] last (Some call) place run = run.0.came ∙ ap (λ (c : C). step c last.place last.before) (sym run.0.same)
  last_by (x ∷ xs) last None place run = absurd run
  last_by (x ∷ xs) last (Some call) place run = last_by xs last (goes_on x.came) x.place run.1

  -- the last step came to what the definition gives for its call
  pub last_came : (call : C) (front : List (CallStep C)) (last : CallStep C) → IsRun step call (front ++ last ∷ []) → last.came ≡ step last.call last.place last.before
  last_came call front last run = last_by front last (Some call) 0 run
