-- Every run for whose steps there is room.
use Rattle.std.proofs.Common.{◌≡◌, ℕ, Some, [], ◌∷◌, ◌++◌, length, refl, sym, ap, subst, ◌∙◌}
use Rattle.flr_behind.specs.Sentences.{Known}
use Rattle.flr_behind.proofs.Keeping.{step_knows}
use Rattle.flr_behind.proofs.Runs.{start_knows}
use Rattle.flr_locks.specs.Sentences.{Locked}
use Rattle.flr_locks.proofs.Keeping.{step_locks}
use Rattle.flr_locks.proofs.Runs.{keep_always, start_locks}
use Rattle.flr_numbers.specs.Sentences.{HasRoom, Holds}
use Rattle.flr_places.proofs.Runs.{new_at}
use Rattle.flr_steps.specs.declared.client.Client.{Client}
use Rattle.flr_steps.specs.States.{State, Stepped, after, next, start}
use Rattle.flr_steps.specs.Steps.{StepIs}
use Rattle.flr_steps.specs.Traces.{trace_after, traced}
use Rattle.flr_steps.proofs.Inversion.{step_is}
use Rattle.flr_steps.proofs.Runs.{after_more}
use Rattle.flr_steps.proofs.StepLaws.{each_step_leaves}
use Rattle.flr_steps.proofs.TraceLaws.{trace_goes_on, traces_stand_beside}
use Rattle.flr_sole.specs.Runs.{Sole}
use Rattle.flr_sole.proofs.Runs.{start_sole}
use Rattle.flr_sole.proofs.Steps.{step_sole}
use Rattle.flr_shut.specs.Laws.{RunsAreShut, StartIsShut}
use Rattle.flr_shut.specs.Sentences.{IsShut, Shut}
use Rattle.flr_shut.proofs.Keeping.{step_shut}

-- ---- before any step

pub start_shut : StartIsShut
start_shut script = record { calls = λ c client e. subst (λ (x : Client). IsShut (start script).shared.meta (start script).shared.targets x.call) (sym (new_at (length script.clients) c client e)) tt }

-- ---- after each step

-- a state that its schedule leads to, and what is kept of it
record Kept (s : State) : Type 0 where
  pub run : after (start s.script) s.schedule ≡ Some s
  pub known : Known s
  pub locked : Locked s
  pub sole : Sole s (trace_after s.script s.schedule)
  pub shut : Shut s

step_kept : (s t : State) (c : ℕ) → Holds s → HasRoom s.shared → Kept s → next s c ≡ Stepped t → Kept t
step_kept s t c h room k made =
    let step : StepIs s c t = step_is s t c made in
    let left = each_step_leaves s t c step in
    let script : t.script ≡ s.script = ap (λ (x : State). x.script) left.is in
    let schedule : t.schedule ≡ s.schedule ++ c ∷ [] = ap (λ (x : State). x.schedule) left.is in
    let trace : trace_after t.script t.schedule ≡ traced s t (trace_after s.script s.schedule) c = (λ j. trace_after (script j) (schedule j)) ∙ trace_goes_on s.script s.schedule s t c k.run made in
    record {
      run = (λ j. after (start (script j)) (schedule j)) ∙ after_more (start s.script) s t s.schedule c k.run made;
      known = step_knows s t c h room k.known step;
      locked = step_locks s t c h room k.locked step;
      sole = subst (Sole t) (sym trace) (step_sole s t c (trace_after s.script s.schedule) h room k.known k.locked (traces_stand_beside s.script s.schedule s k.run) k.sole step);
      shut = step_shut s t c (trace_after s.script s.schedule) h room k.known k.locked k.sole k.shut step;
    }

pub runs_shut : RunsAreShut
runs_shut s run leave = (keep_always Kept step_kept s run leave (record { run = refl; known = start_knows s.script; locked = start_locks s.script; sole = start_sole s.script; shut = start_shut s.script })).shut
