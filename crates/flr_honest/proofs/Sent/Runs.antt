-- Every run for whose steps there is room.
use Rattle.std.proofs.Common.{◌≡◌, ℕ, Some, [], ◌∷◌, ◌++◌, length, refl, sym, ap, subst, ◌∙◌, arith}
use Rattle.flr_behind.specs.Sentences.{Known}
use Rattle.flr_behind.proofs.Keeping.{step_knows}
use Rattle.flr_behind.proofs.Runs.{start_knows}
use Rattle.flr_bound.proofs.Runs.{run_held}
use Rattle.flr_locks.specs.Sentences.{Locked}
use Rattle.flr_locks.proofs.Keeping.{step_locks}
use Rattle.flr_locks.proofs.Runs.{keep_always, start_locks}
use Rattle.flr_numbers.specs.Sentences.{HasRoom, Holds}
use Rattle.flr_places.proofs.Runs.{new_at}
use Rattle.flr_steps.specs.declared.client.Client.{Client}
use Rattle.flr_steps.specs.States.{State, Stepped, after, next, start}
use Rattle.flr_steps.specs.Steps.{StepIs}
use Rattle.flr_steps.specs.Traces.{doing_of, new_trace, sent_calls, trace_after, traced}
use Rattle.flr_steps.proofs.Inversion.{step_is}
use Rattle.flr_steps.proofs.Runs.{after_more}
use Rattle.flr_steps.proofs.StepLaws.{each_step_leaves}
use Rattle.flr_steps.proofs.TraceLaws.{trace_goes_on, traces_stand_beside}
use Rattle.flr_sole.specs.Runs.{Sole}
use Rattle.flr_sole.proofs.Runs.{start_sole}
use Rattle.flr_sole.proofs.Steps.{step_sole}
use Rattle.flr_bytes.specs.Laws.{RunsHaveSent}
use Rattle.flr_bytes.specs.Sent.{AreSent, CallSent}
use Rattle.flr_honest.specs.Sent.{RunsAreListed, StartIsSent}
use Rattle.flr_honest.proofs.Sent.Steps.{step_sent}

-- ---- before any step

-- no call is under way
pub start_sent : StartIsSent
start_sent script c client e = subst (λ (x : Client). CallSent script.fails x.call (sent_calls (doing_of (new_trace (length script.clients)) c))) (sym (new_at (length script.clients) c client e)) tt

-- in every run each target has the calls that the script lists for it to fail
pub run_listed : RunsAreListed
run_listed s run id less = let held = run_held s run in held.fails id (let many = held.many in omega (arith, less, many))

-- ---- after each step

-- a state that its schedule leads to, and what is kept of it
record Kept (s : State) : Type 0 where
  pub run : after (start s.script) s.schedule ≡ Some s
  pub known : Known s
  pub locked : Locked s
  pub sole : Sole s (trace_after s.script s.schedule)
  pub sent : AreSent s (trace_after s.script s.schedule)

step_kept : (s t : State) (c : ℕ) → Holds s → HasRoom s.shared → Kept s → next s c ≡ Stepped t → Kept t
step_kept s t c h room k made =
    let step : StepIs s c t = step_is s t c made in
    let left = each_step_leaves s t c step in
    let script : t.script ≡ s.script = ap (λ (x : State). x.script) left.is in
    let schedule : t.schedule ≡ s.schedule ++ c ∷ [] = ap (λ (x : State). x.schedule) left.is in
    let trace : trace_after t.script t.schedule ≡ traced s t (trace_after s.script s.schedule) c = (λ j. trace_after (script j) (schedule j)) ∙ trace_goes_on s.script s.schedule s t c k.run made in
    let beside = traces_stand_beside s.script s.schedule s k.run in
    record {
      run = (λ j. after (start (script j)) (schedule j)) ∙ after_more (start s.script) s t s.schedule c k.run made;
      known = step_knows s t c h room k.known step;
      locked = step_locks s t c h room k.locked step;
      sole = subst (Sole t) (sym trace) (step_sole s t c (trace_after s.script s.schedule) h room k.known k.locked beside k.sole step);
      sent = subst (AreSent t) (sym trace) (step_sent s t c (trace_after s.script s.schedule) h (run_listed s (record { limits = h.script; run = k.run })) beside k.sole k.sent step);
    }

-- so it is after each run that had room
pub runs_have_sent : RunsHaveSent
runs_have_sent s run leave = (keep_always Kept step_kept s run leave (record { run = refl; known = start_knows s.script; locked = start_locks s.script; sole = start_sole s.script; sent = start_sent s.script })).sent
