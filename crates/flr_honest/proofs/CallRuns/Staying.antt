-- What a call's steps are in a run stays so as the run goes on.
use Rattle.std.proofs.Common.{◌≡◌, ℕ, ◌+◌, ◌-◌, ◌≤◌, ◌<◌, List, [], ◌∷◌, ◌++◌, length, inl, inr, arith}
use Rattle.std.specs.Prelude.{Contains}
use Rattle.std.specs.List.{AllByRecursion}
use Rattle.std.proofs.lemmas.List.Elements.{Contains-append_left, Contains-push}
use Rattle.std.proofs.lemmas.Option.{slice_get_within}
use Rattle.script_values.specs.declared.command.Command.{Command}
use Rattle.script_values.specs.Scripts.{ScriptView}
use Rattle.call_steps.specs.Runs.{CallStep}
use Rattle.flr_steps.specs.declared.client.Running.{Running}
use Rattle.flr_steps.proofs.Runs.{state_stays}
use Rattle.flr_honest.proofs.Closing.Lists.{there_before}
use Rattle.flr_honest.proofs.Landed.Lists.{got_last}
use Rattle.flr_asked.specs.CallRuns.{AllStand, AreAllFrom, StandsIn}

module _ (script : ScriptView) (schedule : List ℕ) (c : ℕ) (asked : Command) where
  -- a step that stands in the run has a place of it
  pub stands_within : (x : CallStep Running) → StandsIn script schedule c asked x → x.place ≤ length schedule
  stands_within x is = let within = slice_get_within schedule (x.place - 1) c is.own in omega (arith, within)

  pub all_within : (steps : List (CallStep Running)) → AllStand script schedule c asked steps → AllByRecursion (λ (x : CallStep Running). x.place ≤ length schedule) steps
  all_within [] all = tt
  all_within (x ∷ xs) all = (stands_within x all.0, all_within xs all.1)

  module _ (d : ℕ) where
    -- it stands in the longer run
    pub stands_still : (x : CallStep Running) → StandsIn script schedule c asked x → StandsIn script (schedule ++ d ∷ []) c asked x
    stands_still x is =
        let low = stands_within x is in
        record {
          old = is.old;
          old_is = state_stays script schedule (d ∷ []) (x.place - 1) is.old is.old_is (omega (arith, low));
          new = is.new;
          new_is = state_stays script schedule (d ∷ []) x.place is.new is.new_is low;
          own = there_before schedule (d ∷ []) (x.place - 1) c is.own;
          before_is = is.before_is;
          after_is = is.after_is;
          step = is.step;
          asked_is = is.asked_is;
          call_is = is.call_is;
          came_is = is.came_is;
        }

    pub all_stand_still : (steps : List (CallStep Running)) → AllStand script schedule c asked steps → AllStand script (schedule ++ d ∷ []) c asked steps
    all_stand_still [] all = tt
    all_stand_still (x ∷ xs) all = (stands_still x all.0, all_stand_still xs all.1)

-- ---- all steps of the client

module _ (schedule : List ℕ) (c d first : ℕ) (steps : List (CallStep Running)) where
  -- up to a place that the run has reached already they stay all
  pub all_still : (last : ℕ) → 0 < first → last ≤ length schedule → AreAllFrom schedule c first last steps → AreAllFrom (schedule ++ d ∷ []) c first last steps
  all_still last some low all place from to own = elim (got_last schedule d c (place - 1) own) as (λ _. (x : CallStep Running) × Contains steps x × (x.place ≡ place)) [
    | inl there ↦ all place from to there
    | inr end ↦ (let at = end.0 in absurd (omega (arith, some, from, to, low, at)))
  ]

  -- a step of another is none of them
  pub all_but : 0 < first → (d ≡ c → ⊥) → AreAllFrom schedule c first (length schedule) steps → AreAllFrom (schedule ++ d ∷ []) c first (length (schedule ++ d ∷ [])) steps
  all_but some apart all place from to own = elim (got_last schedule d c (place - 1) own) as (λ _. (x : CallStep Running) × Contains steps x × (x.place ≡ place)) [
    | inl there ↦ (let within = slice_get_within schedule (place - 1) c there in all place from (omega (arith, within)) there)
    | inr end ↦ absurd (apart end.1)
  ]

-- its own comes behind them
pub all_more : (schedule : List ℕ) (c first : ℕ) (steps : List (CallStep Running)) (x : CallStep Running) → 0 < first → x.place ≡ length schedule + 1 → AreAllFrom schedule c first (length schedule) steps
    → AreAllFrom (schedule ++ c ∷ []) c first (length schedule + 1) (steps ++ x ∷ [])
all_more schedule c first steps x some at all place from to own = elim (got_last schedule c c (place - 1) own) as (λ _. (y : CallStep Running) × Contains (steps ++ x ∷ []) y × (y.place ≡ place)) [
  | inl there ↦ (let within = slice_get_within schedule (place - 1) c there in
      let old = all place from (omega (arith, within)) there in
      (old.0, Contains-append_left steps (x ∷ []) old.0 old.1, old.2))
  | inr end ↦ (let is = end.0 in (x, Contains-push steps x, omega (arith, at, is, some, from)))
]
