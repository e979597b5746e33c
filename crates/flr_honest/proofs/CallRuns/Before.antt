-- The state before an entry's point: it went through the states that the run went through up to there.
use Rattle.std.proofs.Common.{◌≡◌, ℕ, zero, suc, ◌-◌, ◌≤◌, ◌<◌, List, [], ◌∷◌, ◌++◌, length, take, Option, None, Some, refl, sym, ap, ◌∙◌, subst, arith}
use Rattle.std.proofs.lemmas.Option.{slice_get_within}
use Rattle.flr_base.specs.declared.reply.Entry.{Entry}
use Rattle.call_steps.specs.Runs.{CallStep, IsRunOf, goes_on}
use Rattle.call_steps.specs.Servers.{Servers}
use Rattle.call_steps.specs.Steps.{Outcome}
use Rattle.flr_steps.specs.Commands.{begun}
use Rattle.flr_steps.specs.Runs.{RunsFrom}
use Rattle.flr_steps.specs.States.{IsRun, State, after, start, state_at}
use Rattle.flr_steps.specs.Traces.{Past}
use Rattle.flr_steps.proofs.Fronts.{each_run_keeps, fronts_are_runs}
use Rattle.flr_asked.specs.CallRuns.{StandsIn, own_step}
use Rattle.flr_honest.specs.Entries.{IsEntryOf}
use Rattle.flr_honest.proofs.CallRuns.Stepping.{last_stands}

-- a front of a front is one
pub take_less : {A : Type 0} (place n : ℕ) (xs : List A) → place ≤ n → take place (take n xs) ≡ take place xs
take_less zero n xs less = refl
take_less (suc place) zero xs less = absurd (omega (arith, less))
take_less (suc place) (suc n) [] less = refl
take_less {A} (suc place) (suc n) (x ∷ xs) less = ap (λ (ys : List A). x ∷ ys) (take_less place n xs (omega (arith, less)))

-- the last step of a run stands behind its first place
pub last_behind : {C : Type 0} (step : C → ℕ → Servers → Outcome C) (front : List (CallStep C)) (last : CallStep C) (call : Option C) (place : ℕ) → IsRunOf step (front ++ last ∷ []) call place → place < last.place
last_behind step [] last None place run = absurd run
last_behind step [] last (Some call) place run = run.0.later
last_behind step (x ∷ xs) last None place run = absurd run
last_behind step (x ∷ xs) last (Some call) place run = let more = last_behind step xs last (goes_on x.came) x.place run.1 in let later = run.0.later in omega (arith, more, later)

module _ (s : State) (e : Entry) (p : Past) (is : IsEntryOf s e p) where
  keeps : RunsFrom (start s.script) (take (e.at - 1) s.schedule) is.before
  keeps = each_run_keeps (start s.script) is.before (take (e.at - 1) s.schedule) is.before_is

  -- its script is the run's
  pub before_script : is.before.script ≡ s.script
  before_script = keeps.script

  -- its schedule is the front of the run's before the point
  pub before_schedule : is.before.schedule ≡ take (e.at - 1) s.schedule
  before_schedule = keeps.places

  -- up to there both had the same states
  pub states_before : (place : ℕ) → place ≤ e.at - 1 → state_at is.before.script is.before.schedule place ≡ state_at s.script s.schedule place
  states_before place low = (λ j. state_at (before_script j) (before_schedule j) place) ∙ ap (λ (xs : List ℕ). after (start s.script) xs) (take_less place (e.at - 1) s.schedule low)

  -- it is a state of a run
  pub before_runs : IsRun is.before
  before_runs = fronts_are_runs s is.before (e.at - 1) is.run is.before_is

  -- the step of its point stands in the run
  pub point_stands : StandsIn s.script s.schedule e.client is.asked is.call.last
  point_stands = last_stands s.script s.schedule e.client is.asked is.call.front is.call.last is.call.stand

  -- and was made from that state
  pub point_from : is.call.last.before ≡ is.before.shared
  point_from =
      let there = subst (λ (n : ℕ). state_at s.script s.schedule (n - 1) ≡ Some point_stands.old) is.call.place_is point_stands.old_is in
      let same : Some point_stands.old ≡ Some is.before = sym there ∙ is.before_is in
      let one : point_stands.old ≡ is.before = cc in
      point_stands.before_is ∙ ap (λ (x : State). x.shared) one

  -- the point is a place of the run, from 1 on
  pub point_within : (0 < e.at) × (e.at ≤ length s.schedule)
  point_within =
      let low = slice_get_within s.schedule (is.call.last.place - 1) e.client point_stands.own in
      let at = is.call.place_is in
      let some = last_behind (own_step e.client is.asked) is.call.front is.call.last (Some (begun e.client is.asked)) 0 is.call.run in
      (omega (arith, some, at), omega (arith, low, at))
