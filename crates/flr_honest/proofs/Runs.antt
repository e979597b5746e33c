-- Every run of a script without rot.
use Rattle.std.proofs.Common.{◌≡◌, ℕ, Some, false, [], ◌∷◌, ◌++◌, length, refl, sym, ap, subst, ◌∙◌}
use Rattle.meta_server.specs.Sound.{IsSound}
use Rattle.script_values.specs.Scripts.{IsScript}
use Rattle.flr_numbers.specs.Laws.{LeaveRoom}
use Rattle.flr_numbers.specs.Sentences.{HasRoom, Holds}
use Rattle.flr_locks.proofs.Runs.{keep_always}
use Rattle.flr_runs.proofs.Runs as runs
use Rattle.flr_steps.specs.States.{IsRun, State, Stepped, after, next, start}
use Rattle.flr_steps.specs.Steps.{StepIs}
use Rattle.flr_steps.specs.Traces.{trace_after, traced}
use Rattle.flr_steps.proofs.Inversion.{step_is}
use Rattle.flr_steps.proofs.Runs.{after_more}
use Rattle.flr_steps.proofs.StepLaws.{each_step_leaves}
use Rattle.flr_steps.proofs.TraceLaws.{trace_goes_on}
use Rattle.flr_claims.specs.Causes.{has_rot}
use Rattle.flr_bytes.specs.Runs.{Honest}
use Rattle.flr_bytes.proofs.Beginning.{start_honest}
use Rattle.flr_honest.specs.Laws.{RunsAreHonest, RunsHoldPlainFiles}
use Rattle.flr_honest.proofs.Commands.{no_rot}
use Rattle.flr_honest.proofs.Files.{files_honest}
use Rattle.flr_honest.proofs.Grounds.{runs_ground}
use Rattle.flr_honest.proofs.Steps.{step_honest}

-- a state that its schedule leads to, and what is kept of it where no byte may rot
record Kept (s : State) : Type 0 where
  pub run : after (start s.script) s.schedule ≡ Some s
  pub honest : has_rot s.script ≡ false → Honest s (trace_after s.script s.schedule)

step_kept : (s t : State) (c : ℕ) → Holds s → HasRoom s.shared → Kept s → next s c ≡ Stepped t → Kept t
step_kept s t c h room k made =
    let step : StepIs s c t = step_is s t c made in
    let left = each_step_leaves s t c step in
    let script : t.script ≡ s.script = ap (λ (x : State). x.script) left.is in
    let schedule : t.schedule ≡ s.schedule ++ c ∷ [] = ap (λ (x : State). x.schedule) left.is in
    let trace : trace_after t.script t.schedule ≡ traced s t (trace_after s.script s.schedule) c = (λ j. trace_after (script j) (schedule j)) ∙ trace_goes_on s.script s.schedule s t c k.run made in
    let led : after (start t.script) t.schedule ≡ Some t = (λ j. after (start (script j)) (schedule j)) ∙ after_more (start s.script) s t s.schedule c k.run made in
    let here : IsRun s = record { limits = h.script; run = k.run } in
    let there : IsRun t = record { limits = subst IsScript (sym script) h.script; run = led } in
    record {
      run = led;
      honest = λ none. (let before : has_rot s.script ≡ false = ap has_rot (sym script) ∙ none in
          step_honest s t (trace_after s.script s.schedule) (trace_after t.script t.schedule) c (record {
            before = runs_ground s here;
            after = runs_ground t there;
            step = step;
            sound = no_rot s.script c step.client.done step.asked before step.commanded;
          }) trace (k.honest before));
    }

pub runs_honest : RunsAreHonest
runs_honest s run none =
    let leave : LeaveRoom (length s.schedule) = runs.runs_leave (length s.schedule) in (keep_always Kept step_kept s run leave (record { run = refl; honest = λ still. start_honest s.script })).honest none

pub runs_hold_plain : RunsHoldPlainFiles
runs_hold_plain s run none =
    let sound : IsSound s.shared.meta = (runs_ground s run).holds.servers.sound in files_honest s (trace_after s.script s.schedule) sound.ascending sound.named (runs_honest s run none)
