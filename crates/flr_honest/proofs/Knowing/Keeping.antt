-- Each step leaves reads and verifies with what they are to have.
use Rattle.std.proofs.Common.{◌≡◌, ℕ, Some, length, ◌⊎◌, inl, inr, sym, ap, subst, ◌∙◌}
use Rattle.std.proofs.lemmas.Bool.{cases_eq}
use Rattle.script_values.specs.Commands.{IsCommand}
use Rattle.script_values.specs.declared.command.Command.{Command}
use Rattle.meta_server.specs.Sound.{IsSound}
use Rattle.call_steps.specs.Servers.{Servers}
use Rattle.call_steps.specs.Steps.{Outcome, Going, Fixed, Ended, Answered, Blocked}
use Rattle.client_read.specs.Reads.{read_step}
use Rattle.client_write.specs.Truncates.{truncate_step}
use Rattle.client_write.specs.Writes.{write_step}
use Rattle.mirror_verify.specs.Verifies.{verify_step}
use Rattle.resync_copy.specs.Steps.{copy_step}
use Rattle.flr_steps.specs.declared.client.Client.{Client}
use Rattle.flr_steps.specs.declared.client.Running.{Running}
use Rattle.flr_steps.specs.declared.client.Running.TheVariants as running
use Rattle.flr_steps.specs.Clients.{call_now}
use Rattle.flr_steps.specs.Commands.{step_of}
use Rattle.flr_steps.specs.States.{State, client_at, place_in}
use Rattle.flr_steps.proofs.Inversion.{step_is}
use Rattle.flr_steps.proofs.StepLaws.{each_step_leaves}
use Rattle.flr_numbers.proofs.Commands.{is_command}
use Rattle.flr_locks.proofs.Runs.{keep_always}
use Rattle.flr_pieces.proofs.Leading.{Leads}
use Rattle.flr_places.proofs.Keeping.{new_other}
use Rattle.flr_places.proofs.Runs.{new_at}
use Rattle.flr_honest.specs.Knowing.{RunsHavePieces, StartHasPieces, StepsKeepPieces}
use Rattle.flr_bytes.specs.Pieces.{Has, HavePieces}
use Rattle.flr_honest.proofs.Knowing.InHand as reads
use Rattle.flr_honest.proofs.Knowing.InHand.{read_has}
use Rattle.flr_honest.proofs.Knowing.Own.{now_has}
use Rattle.flr_honest.proofs.Knowing.Reading.{OnNext}
use Rattle.flr_honest.proofs.Knowing.Steps.{any_next, once_next, own_next, widened}
use Rattle.flr_honest.proofs.Knowing.Verifying as verifies
use Rattle.flr_honest.proofs.Knowing.Verifying.{verify_has}

-- what holds of the call that goes on, whatever the servers are
leads_next : {C : Type 0} (P : C → Type 0) (o : Outcome C) → Leads P o → OnNext (λ x after. P x) o
leads_next P (Going next after) h = h
leads_next P (Fixed next reply takes after) h = h
leads_next P (Ended after) h = tt
leads_next P (Answered reply takes after) h = tt
leads_next P (Blocked holder) h = tt

abbrev HasNow : Running → Servers → Type 0
HasNow x after = Has x

step_has : (c place : ℕ) (s : Servers) (asked : Command) (call : Running) → IsSound s.meta → Has call → OnNext HasNow (step_of call c asked place s)
step_has c place s asked running.Idle sound h = once_next HasNow c place s asked
step_has c place s asked (running.Read r) sound h = widened (λ x after. reads.IsInHand x) HasNow running.Read (λ x after k. k) (read_step r place s) (leads_next reads.IsInHand (read_step r place s) (read_has r s sound h.0 r.at h.1))
step_has c place s asked (running.Write w) sound h = any_next HasNow running.Write (λ x after. tt) (write_step w place s)
step_has c place s asked (running.Truncate w) sound h = any_next HasNow running.Truncate (λ x after. tt) (truncate_step w place s)
step_has c place s asked (running.Copy w) sound h = any_next HasNow running.Copy (λ x after. tt) (copy_step w place s)
step_has c place s asked (running.Verify v) sound h = widened (λ x after. verifies.IsInHand x) HasNow running.Verify (λ x after k. k) (verify_step v place s) (leads_next verifies.IsInHand (verify_step v place s) (verify_has v s sound v.at h))

-- each step
pub steps_keep : StepsKeepPieces
steps_keep s t c h have step k other there = by (cases_eq k c)
  where
    good : IsCommand s.script.most s.script.targets (length s.script.clients) step.asked
    good = is_command s.script c step.client.done step.asked h.script step.commanded

    came : OnNext HasNow step.came
    came =
        subst (OnNext HasNow) step.made
        (step_has c (place_in s) s.shared step.asked (call_now c step.client.call step.asked) h.servers.sound (now_has c s.script.most s.script.targets (length s.script.clients) step.asked step.client.call good (have c step.client step.here)))

    by : (k ≡ c) ⊎ (k ≡ c → ⊥) → Has other.call
    by (inl same) = own_next HasNow (λ after. tt) s t c step came other (subst (λ n. client_at t.clients n ≡ Some other) same there)
    by (inr apart) =
        let left = each_step_leaves s t c step in
        have k other (sym (ap (λ (x : State). client_at x.clients k) left.is ∙ new_other s.clients c k step.client left.client step.here apart) ∙ there)

-- before any step
pub start_has : StartHasPieces
start_has script c client e = subst (λ (x : Client). Has x.call) (sym (new_at (length script.clients) c client e)) tt

-- every run
pub runs_have : RunsHavePieces
runs_have s run leave = keep_always HavePieces (λ s t c h room p is. steps_keep s t c h p (step_is s t c is)) s run leave (start_has s.script)
