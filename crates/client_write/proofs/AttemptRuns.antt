-- What stands before each step of a run, where each step leaves it standing.
use Rattle.std.proofs.Common.{◌≡◌, ℕ, List, [], ◌∷◌, ◌++◌, length, Some, ◌⊎◌, inl, inr, refl, sym, ap, subst, length-append, arith}
use Rattle.std.specs.List.{AllByRecursion}
use Rattle.call_steps.specs.Runs.{CallStep, IsRunOf, IsStepOf, goes_on}
use Rattle.call_steps.specs.Servers.{Servers}
use Rattle.call_steps.specs.Steps.{Outcome, Going, Fixed, Ended, Answered, Blocked}
use Rattle.client_write.specs.Attempts.{Attempt, Deed, attempt_after, with_deed}

module _ {C : Type 0} {At : Type 0} (on : At → C) (step : C → ℕ → Servers → Outcome C) (deed_of : C → ℕ → Servers → Deed)
    (Sound : C → Type 0) (Stands : At → Attempt → Type 0) (InOrder : Attempt → Type 0) where
  -- what a step leaves
  abbrev pub Left : Outcome C → Attempt → Type 0
  Left (Going next after) a = (at : At) × (next ≡ on at) × Stands at a
  Left (Fixed next reply takes after) a = (at : At) × (next ≡ on at) × Stands at a
  Left (Ended after) a = InOrder a
  Left (Answered reply takes after) a = InOrder a
  Left (Blocked holder) a = InOrder a

  -- each step of a sound call leaves it standing, and it is in order at each end
  pub record IsKept : Type 0 where
    pub ends : (at : At) (a : Attempt) → Stands at a → InOrder a
    pub steps : (at : At) (place : ℕ) (s : Servers) (a : Attempt) → Sound (on at) → Stands at a → Left (step (on at) place s) (with_deed a (deed_of (on at) place s))

  -- what a step does
  abbrev pub deed : CallStep C → Deed
  deed made = deed_of made.call made.place made.before

  -- the rest of a run goes on, or there is none
  abbrev Rest : CallStep C → List (CallStep C) → Attempt → Type 0
  Rest made rest a = ((at : At) × IsRunOf step rest (Some (on at)) made.place × Stands at a) ⊎ ((rest ≡ []) × InOrder a)

  rest_of : (came : Outcome C) (made : CallStep C) (rest : List (CallStep C)) (a : Attempt) → Left came a → IsRunOf step rest (goes_on came) made.place → Rest made rest a
  rest_of (Going next after) made rest a left run = inl (left.0, subst (λ (c : C). IsRunOf step rest (Some c) made.place) left.1 run, left.2)
  rest_of (Fixed next reply takes after) made rest a left run = inl (left.0, subst (λ (c : C). IsRunOf step rest (Some c) made.place) left.1 run, left.2)
  rest_of (Ended after) made [] a left run = inr (refl, left)
  rest_of (Ended after) made (m ∷ ms) a left run = absurd run
  rest_of (Answered reply takes after) made [] a left run = inr (refl, left)
  rest_of (Answered reply takes after) made (m ∷ ms) a left run = absurd run
  rest_of (Blocked holder) made [] a left run = inr (refl, left)
  rest_of (Blocked holder) made (m ∷ ms) a left run = absurd run

  -- the first step of a run leaves it standing
  after_first : IsKept → (at : At) (last : ℕ) (made : CallStep C) (rest : List (CallStep C)) (a : Attempt) → IsStepOf step (on at) last made → IsRunOf step rest (goes_on made.came) made.place →
      Sound made.call → Stands at a → Rest made rest (with_deed a (deed made))
  after_first kept at last made rest a is run sound stands =
      let left = kept.steps at made.place made.before a (subst Sound is.same sound) stands in
      let here : Left made.came (with_deed a (deed made)) =
      subst (λ (came : Outcome C). Left came (with_deed a (deed made))) (sym is.came)
      (subst (λ (c : C). Left (step (on at) made.place made.before) (with_deed a (deed_of c made.place made.before))) (sym is.same) left) in
      rest_of made.came made rest (with_deed a (deed made)) here run

  -- the attempt is in order after each run
  pub run_in_order : IsKept → (steps : List (CallStep C)) (at : At) (last : ℕ) (a : Attempt) → IsRunOf step steps (Some (on at)) last →
      AllByRecursion (λ (made : CallStep C). Sound made.call) steps → Stands at a → InOrder (attempt_after deed a steps)
  run_in_order kept [] at last a run sound stands = kept.ends at a stands
  run_in_order kept (made ∷ rest) at last a run sound stands =
      elim (after_first kept at last made rest a run.0 run.1 sound.0 stands) [
        | inl more ↦ run_in_order kept rest more.0 made.place (with_deed a (deed made)) more.1 sound.1 more.2
        | inr done ↦ subst (λ (r : List (CallStep C)). InOrder (attempt_after deed (with_deed a (deed made)) r)) (sym done.0) done.1
      ]

  -- before the last step of a run
  pub record StandsBefore (front : List (CallStep C)) (made : CallStep C) (a : Attempt) : Type 0 where
    pub at : At
    pub call : made.call ≡ on at
    pub came : made.came ≡ step (on at) made.place made.before
    pub sound : Sound (on at)
    pub stands : Stands at (attempt_after deed a front)

  pub run_stands : IsKept → (front : List (CallStep C)) (made : CallStep C) (at : At) (last : ℕ) (a : Attempt) → IsRunOf step (front ++ made ∷ []) (Some (on at)) last →
      AllByRecursion (λ (m : CallStep C). Sound m.call) (front ++ made ∷ []) → Stands at a → StandsBefore front made a
  run_stands kept [] made at last a run sound stands = record { at = at; call = run.0.same; came = run.0.came; sound = subst Sound run.0.same sound.0; stands = stands }
  run_stands kept (m ∷ front) made at last a run sound stands =
      elim (after_first kept at last m (front ++ made ∷ []) a run.0 run.1 sound.0 stands) [
        | inl more ↦
            let before = run_stands kept front made more.0 m.place (with_deed a (deed m)) more.1 sound.1 more.2 in
            record { at = before.at; call = before.call; came = before.came; sound = before.sound; stands = before.stands }
        | inr done ↦ absurd (omega (arith, ap length done.0, length-append front (made ∷ [])))
      ]

-- the attempt after one more step
pub attempt_more : {C : Type 0} (deed : CallStep C → Deed) (a : Attempt) (front : List (CallStep C)) (made : CallStep C) →
    attempt_after deed a (front ++ made ∷ []) ≡ with_deed (attempt_after deed a front) (deed made)
attempt_more deed a [] made = refl
attempt_more deed a (m ∷ front) made = attempt_more deed (with_deed a (deed m)) front made
