-- The states of a run and of the states on its way, by their places.
use Rattle.std.proofs.Common.{◌≡◌, ℕ, zero, suc, ◌≤◌, Some, List, [], ◌∷◌, length, take, refl, ap, ◌∙◌, arith}
use Rattle.std.proofs.lemmas.List.{length-take}
use Rattle.script_values.specs.Scripts.{ScriptView}
use Rattle.flr_steps.specs.States.{State, after, start, state_at}
use Rattle.flr_steps.proofs.Fronts.{each_run_keeps}

take_front : (xs : List ℕ) (n place : ℕ) → place ≤ n → take place (take n xs) ≡ take place xs
take_front [] zero place le = refl
take_front [] (suc n) place le = refl
take_front (x ∷ xs) n zero le = refl
take_front (x ∷ xs) zero (suc place) le = absurd (omega (arith, le))
take_front (x ∷ xs) (suc n) (suc place) le = ap (λ (ys : List ℕ). x ∷ ys) (take_front xs n place (omega (arith, le)))

module _ (script : ScriptView) (schedule : List ℕ) (n : ℕ) (s : State) (is : state_at script schedule n ≡ Some s) where
  pub same_script : s.script ≡ script
  same_script = (each_run_keeps (start script) s (take n schedule) is).script

  pub front_schedule : s.schedule ≡ take n schedule
  front_schedule = (each_run_keeps (start script) s (take n schedule) is).places

  -- its schedule isn't longer than its place
  pub not_longer : length s.schedule ≤ n
  not_longer = let same = ap (λ (cs : List ℕ). length cs) front_schedule in let long = length-take n schedule in omega (arith, same, long)

  -- the state at an earlier place is that of the run
  pub earlier_states : (place : ℕ) → place ≤ n → state_at s.script s.schedule place ≡ state_at script schedule place
  earlier_states place le = (λ j. after (start (same_script j)) (take place (front_schedule j))) ∙ ap (λ (cs : List ℕ). after (start script) cs) (take_front schedule n place le)
