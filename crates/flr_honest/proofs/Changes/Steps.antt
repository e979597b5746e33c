-- What holds of the metadata server after each call that a step makes for its command holds after the step.
use Rattle.std.proofs.Common.{◌≡◌, ℕ, length, sym, subst, ◌-◌}
use Rattle.layout_lease.specs.Leases.{KeyView}
use Rattle.script_values.specs.declared.command.Command.{Command}
use Rattle.script_values.specs.Commands.{IsCommand}
use Rattle.meta_server.specs.Ending.{both_given}
use Rattle.meta_server.specs.Files.{MetaView}
use Rattle.call_steps.specs.Steps.{Outcome, Going, Fixed, Ended, Answered, Blocked}
use Rattle.flr_steps.specs.declared.client.Client.{Client}
use Rattle.flr_steps.specs.declared.client.Running.{Running}
use Rattle.flr_steps.specs.declared.client.Running.TheVariants as running
use Rattle.flr_steps.specs.Clients.{call_now, first_now}
use Rattle.flr_steps.specs.Commands.{begun}
use Rattle.flr_steps.specs.States.{IsRun, State, place_in}
use Rattle.flr_steps.specs.Steps.{LeavesState, StepIs}
use Rattle.flr_steps.proofs.Fronts.{fronts_are_runs}
use Rattle.flr_numbers.specs.Sentences.{Holds, IsCallOf}
use Rattle.flr_numbers.proofs.Clients.{has_now, is_now}
use Rattle.flr_numbers.proofs.Commands.{is_command}
use Rattle.flr_asked.specs.Sentences.{IsOf, at_start}
use Rattle.flr_places.specs.Sentences.{IsCookieOf, Placed}
use Rattle.flr_places.proofs.Opened.{now_open}
use Rattle.flr_places.proofs.Runs.{runs_place}
use Rattle.flr_places.proofs.Steps.{OnMeta}
use Rattle.flr_runs.proofs.Runs as runs
use Rattle.flr_claims.specs.Runs.{EachStepIs}
use Rattle.flr_asked.proofs.Runs.{runs_asked}
use Rattle.flr_honest.proofs.Stores.Begun.{now_of}
use Rattle.flr_honest.proofs.Changes.Asking.{AfterCalls}
use Rattle.flr_honest.proofs.Changes.Commands.{step_leaves}

-- a call that is as the command began it is of the command
of_start : (c : ℕ) (asked : Command) (call : Running) → at_start call ≡ begun c asked → IsOf c asked call
of_start c asked running.Idle e = tt
of_start c asked (running.Read call) e = e
of_start c asked (running.Write call) e = e
of_start c asked (running.Truncate call) e = e
of_start c asked (running.Copy call) e = e
of_start c asked (running.Verify call) e = e

-- what a step leaves of the metadata server is what it came to
left_so : (P : MetaView → Type 0) (s t : State) (c : ℕ) (client : Client) (first : ℕ) (came : Outcome Running) → OnMeta P came → LeavesState s c client first came t → P t.shared.meta
left_so P s t c client first (Going next after) so left = subst (λ (x : State). P x.shared.meta) (sym left) so
left_so P s t c client first (Fixed next reply takes after) so left = subst (λ (x : State). P x.shared.meta) (sym left) so
left_so P s t c client first (Ended after) so left = subst (λ (x : State). P x.shared.meta) (sym left) so
left_so P s t c client first (Answered reply takes after) so left = subst (λ (x : State). P x.shared.meta) (sym left) so
left_so P s t c client first (Blocked holder) so left = absurd left

module _ (s t : State) (c : ℕ) (run : IsRun s) (step : StepIs s c t) where
  -- the call of the step, which is as its command began it
  pub call_asked : at_start (call_now c step.client.call step.asked) ≡ begun c step.asked
  call_asked = now_of c step.asked step.client.call (runs_asked s run c step.client step.asked step.here step.commanded)

  -- what holds after each call that the step may make holds after it
  pub after_step : (P : MetaView → Type 0) → AfterCalls P step.asked c (place_in s) (call_now c step.client.call step.asked) s.shared.meta
      → ((ours theirs : KeyView) → ours.client ≡ c → theirs.client ≡ c → P (both_given ours theirs s.shared.meta)) → P t.shared.meta
  after_step P calls gives =
      let h : Holds s = runs.all_hold s run in
      let client : Client = step.client in
      let good : IsCommand s.script.most s.script.targets (length s.script.clients) step.asked = is_command s.script c client.done step.asked h.script step.commanded in
      let call : Running = call_now c client.call step.asked in
      let of = h.clients c client step.here in
      let is : IsCallOf c call = is_now c s.shared step.asked s.script.most s.script.targets (length s.script.clients) h.script.form.few_mirrors h.script.form.few_clients good client.call of.call in
      let has = has_now c s.shared step.asked s.script.most s.script.targets (length s.script.clients) h.script.form.few_mirrors h.script.form.few_clients good client.call of.has in
      let placed : Placed s = runs_place s run (runs.runs_leave (length s.schedule)) in
      let left = step_leaves P step.asked c (place_in s) s.shared call calls gives (of_start c step.asked call call_asked) is (now_open (IsCookieOf c) c step.asked client.call (placed.cookies c client step.here)) has.own in
      left_so P s t c client (first_now client.call (place_in s) client.first) step.came (subst (λ (o : Outcome Running). OnMeta P o) step.made left) step.left

-- what holds of each step from a run to a run holds of each step of a run
pub each_step : (P : (old : State) (c : ℕ) (new : State) → StepIs old c new → Type 0) → ((old new : State) (c : ℕ) → IsRun old → IsRun new → (step : StepIs old c new) → P old c new step) → (s : State) → IsRun s → EachStepIs P s
each_step P so s run place at = so at.old at.new at.client (fronts_are_runs s at.old (place - 1) run at.old_is) (fronts_are_runs s at.new place run at.new_is) at.step
