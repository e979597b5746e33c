-- In every run a write or a truncate that is begun again has landed nothing.
use Rattle.std.proofs.Common.{◌≡◌, ℕ, Bool, true, false, Some, [], ◌∷◌, ◌++◌, length, refl, sym, ap, subst, ◌∙◌}
use Rattle.meta_server.specs.Opening.{cut_opens, write_opens}
use Rattle.script_values.specs.declared.command.Command.{Command}
use Rattle.script_values.specs.Scripts.{ScriptView}
use Rattle.call_steps.specs.Servers.{Servers}
use Rattle.call_steps.specs.Steps.{Outcome}
use Rattle.client_read.specs.Reads.{new_read, read_step}
use Rattle.client_write.specs.Truncates.{new_truncate}
use Rattle.client_write.specs.Writes.{new_write, opens, range_of}
use Rattle.mirror_verify.specs.Verifies.{new_verify, verify_step}
use Rattle.resync_copy.specs.Copies.{new_copy}
use Rattle.resync_copy.specs.Steps.{copy_step}
use Rattle.flr_steps.specs.declared.client.Client.{Client}
use Rattle.flr_steps.specs.declared.client.Running.{Running}
use Rattle.flr_steps.specs.declared.client.Running.TheVariants as running
use Rattle.flr_steps.specs.Clients.{call_now}
use Rattle.flr_steps.specs.Commands.{begun, step_of}
use Rattle.flr_steps.specs.States.{State, Stepped, after, client_at, next, place_in, start}
use Rattle.flr_steps.specs.Steps.{StepIs}
use Rattle.flr_steps.specs.Traces.{Doing, Trace, doing_of, done_with, is_idle, is_opening, made_by, sent_calls, trace_after, traced}
use Rattle.flr_numbers.specs.Sentences.{HasRoom, Holds}
use Rattle.flr_bytes.specs.Runs.{Ground}
use Rattle.flr_honest.proofs.Stores.Begun.{begun_so}
use Rattle.flr_honest.proofs.Grounds.{runs_ground}
use Rattle.flr_locks.proofs.Runs.{keep_always}
use Rattle.flr_places.proofs.Runs.{new_at}
use Rattle.flr_runs.proofs.Runs as runs
use Rattle.flr_steps.proofs.Inversion.{step_is}
use Rattle.flr_steps.proofs.Runs.{after_more}
use Rattle.flr_steps.proofs.StepLaws.{each_step_leaves}
use Rattle.flr_steps.proofs.TraceLaws.{trace_goes_on}
use Rattle.flr_honest.specs.WriteCauses.Again.{AgainHasNone, IsAgain, NothingLanded, RunsBeginAgainWithNone}
use Rattle.flr_honest.proofs.WriteCauses.Again.{HasNone, cut_opened, idle_none, once, other_none, write_none, write_opened}
use Rattle.flr_honest.proofs.WriteCauses.AgainCuts.{cut_none}
use Rattle.flr_honest.proofs.WriteCauses.EachCall.{EachHas, OnCall, step_each}

module _ (s : State) (c : ℕ) (tr : Trace) (g : Ground s tr) (client : Client) (here : client_at s.clients c ≡ Some client) (asked : Command) where
  -- what the call has done once the step left these servers
  abbrev done : Bool → Bool → Servers → Doing
  done idle opens after = done_with idle opens (place_in s) (made_by (place_in s) s.shared.targets after.targets) (doing_of tr c)

  -- a step of this call, begun or under way, leaves one that has landed nothing if it is begun again
  abbrev Goal : Bool → Running → Type 0
  Goal idle call =
      OnCall (HasNone s.script.fails) (idle_none s.script.fails) (done idle (is_opening call)) (step_of call c asked (place_in s) s.shared)

  begun_goal : Goal true (begun c asked)
  begun_goal = begun_so (Goal true) c asked (record {
    idle = once s.script.fails (done true true) c (place_in s) s.shared asked;
    read = λ name offset len. other_none s.script.fails running.Read (λ x again. again) (done true true) (read_step (new_read c name offset len) (place_in s) s.shared);
    write = λ name offset bytes. write_opened s.script.fails (done true true) s.shared (new_write c name offset bytes) (write_opens c name (range_of (new_write c name offset bytes)) (place_in s) s.shared.meta);
    truncate = λ name size. cut_opened s.script.fails (done true true) s.shared (new_truncate c name size) (cut_opens c name size (place_in s) s.shared.meta);
    copy = λ name what. other_none s.script.fails running.Copy (λ x again. again) (done true true) (copy_step (new_copy c name what) (place_in s) s.shared);
    verify = λ name. other_none s.script.fails running.Verify (λ x again. again) (done true true) (verify_step (new_verify c name) (place_in s) s.shared);
  })

  by_call : (call : Running) → client.call ≡ call → Goal (is_idle call) (call_now c call asked)
  by_call running.Idle is = begun_goal
  by_call (running.Read r) is = other_none s.script.fails running.Read (λ x again. again) (done false (is_opening (running.Read r))) (read_step r (place_in s) s.shared)
  by_call (running.Write w) is = write_none s c tr g client here w w.at is
  by_call (running.Truncate t) is = cut_none s c tr g client here t t.at is
  by_call (running.Copy k) is = other_none s.script.fails running.Copy (λ x again. again) (done false (is_opening (running.Copy k))) (copy_step k (place_in s) s.shared)
  by_call (running.Verify v) is = other_none s.script.fails running.Verify (λ x again. again) (done false (is_opening (running.Verify v))) (verify_step v (place_in s) s.shared)

-- each step keeps it
step_again : (s t : State) (c : ℕ) (tr : Trace) → Ground s tr → AgainHasNone s tr → StepIs s c t → AgainHasNone t (traced s t tr c)
step_again s t c tr g each step =
    let script : t.script ≡ s.script = ap (λ (x : State). x.script) (each_step_leaves s t c step).is in
    let on : Goal s c tr g step.client step.here step.asked (is_idle step.client.call) (call_now c step.client.call step.asked) = by_call s c tr g step.client step.here step.asked step.client.call refl in
    subst (λ (x : ScriptView). EachHas (HasNone x.fails) (idle_none x.fails) t (traced s t tr c)) (sym script)
    (step_each (HasNone s.script.fails) (idle_none s.script.fails) s t c tr g.beside each step (subst (λ (o : Outcome Running). OnCall (HasNone s.script.fails) (idle_none s.script.fails) (λ after. done_with (is_idle step.client.call) (is_opening (call_now c step.client.call step.asked)) (place_in s) (made_by (place_in s) s.shared.targets after.targets) (doing_of tr c)) o) step.made on))

-- a state that its schedule leads to, and what is kept of it
record Kept (s : State) : Type 0 where
  pub run : after (start s.script) s.schedule ≡ Some s
  pub none : AgainHasNone s (trace_after s.script s.schedule)

step_kept : (s t : State) (c : ℕ) → Holds s → HasRoom s.shared → Kept s → next s c ≡ Stepped t → Kept t
step_kept s t c h room k made =
    let step : StepIs s c t = step_is s t c made in
    let left = each_step_leaves s t c step in
    let script : t.script ≡ s.script = ap (λ (x : State). x.script) left.is in
    let schedule : t.schedule ≡ s.schedule ++ c ∷ [] = ap (λ (x : State). x.schedule) left.is in
    let trace : trace_after t.script t.schedule ≡ traced s t (trace_after s.script s.schedule) c = (λ j. trace_after (script j) (schedule j)) ∙ trace_goes_on s.script s.schedule s t c k.run made in
    record {
      run = (λ j. after (start (script j)) (schedule j)) ∙ after_more (start s.script) s t s.schedule c k.run made;
      none = subst (AgainHasNone t) (sym trace) (step_again s t c (trace_after s.script s.schedule) (runs_ground s (record { limits = h.script; run = k.run })) k.none step);
    }

start_kept : (script : ScriptView) → Kept (start script)
start_kept script = record { run = refl; none = λ c client e. subst (λ (x : Client). IsAgain x.call → NothingLanded script.fails (sent_calls (doing_of (trace_after script []) c))) (sym (new_at (length script.clients) c client e)) (λ again. absurd again) }

-- in every run a call that is begun again has landed nothing since it opened its file
pub runs_begin_again : RunsBeginAgainWithNone
runs_begin_again s run = (keep_always Kept step_kept s run (runs.runs_leave (length s.schedule)) (start_kept s.script)).none
