-- What a step leaves of the other clients, of what their calls have done, and of the script.
use Rattle.std.proofs.Common.{◌≡◌, ◌≢◌, ℕ, zero, suc, ◌-◌, ◌<◌, false, Some, List, refl, sym, ap, subst, ◌∙◌, arith, get_or-set_other}
use Rattle.std.proofs.lemmas.Bool.{false≢true}
use Rattle.script_values.specs.declared.command.Command.{Command}
use Rattle.call_steps.specs.Steps.{Outcome, Going, Fixed, Ended, Answered, Blocked}
use Rattle.flr_places.proofs.Keeping.{new_other}
use Rattle.flr_steps.specs.declared.client.Client.{Client}
use Rattle.flr_steps.specs.declared.client.Running.{Running}
use Rattle.flr_steps.specs.declared.client.Running.TheVariants as running
use Rattle.flr_steps.specs.Clients.{call_now}
use Rattle.flr_steps.specs.Runs.{LeavesSome, doing_after}
use Rattle.flr_steps.specs.States.{State, client_at}
use Rattle.flr_steps.specs.Steps.{StepIs}
use Rattle.flr_steps.specs.Traces.{Doing, Trace, doing_of, is_opening, nothing_done, traced, traced_by}
use Rattle.flr_steps.proofs.StepLaws.{each_step_leaves}
use Rattle.flr_steps.proofs.TraceLaws.{steps_are_traced}
use Rattle.flr_claims.specs.Honesty.{IsAttempting}
use Rattle.flr_claims.specs.Sending.{Attempt, HasLanded, Part}
use Rattle.flr_sole.proofs.Keeping.{now_opens}

-- who is there has a number from 1 on
from_one : (clients : List Client) (c : ℕ) (client : Client) → client_at clients c ≡ Some client → 0 < c
from_one clients zero client e = absurd (cc)
from_one clients (suc c) client e = omega arith

module _ (s t : State) (c : ℕ) (tr : Trace) (step : StepIs s c t) where
  leaves : LeavesSome s c t
  leaves = each_step_leaves s t c step

  -- the script stays
  pub script_stays : t.script ≡ s.script
  script_stays = ap (λ (x : State). x.script) leaves.is

  -- every other client stays
  pub client_stays : (k : ℕ) → k ≢ c → client_at t.clients k ≡ client_at s.clients k
  client_stays k apart = ap (λ (x : State). client_at x.clients k) leaves.is ∙ new_other s.clients c k step.client leaves.client step.here apart

  by_came : (came : Outcome Running) (call : Running) (d : Doing) (k : ℕ) → (k - 1 ≡ c - 1 → ⊥) → doing_of (traced_by tr c call d came) k ≡ doing_of tr k
  by_came (Going next after) call d k apart = get_or-set_other tr.running (c - 1) (k - 1) d nothing_done apart
  by_came (Fixed next reply takes after) call d k apart = get_or-set_other tr.running (c - 1) (k - 1) d nothing_done apart
  by_came (Ended after) call d k apart = get_or-set_other tr.running (c - 1) (k - 1) d nothing_done apart
  by_came (Answered reply takes after) call d k apart = get_or-set_other tr.running (c - 1) (k - 1) d nothing_done apart
  by_came (Blocked holder) call d k apart = refl

  -- and so does what its call has done
  pub doing_stays : (k : ℕ) (other : Client) → client_at s.clients k ≡ Some other → k ≢ c → doing_of (traced s t tr c) k ≡ doing_of tr k
  doing_stays k other e apart =
      let one = from_one s.clients k other e in
      let two = from_one s.clients c step.client step.here in
      ap (λ (x : Trace). doing_of x k) (steps_are_traced s t tr c step) ∙ by_came step.came (call_now c step.client.call step.asked) (doing_after s t tr c step.client step.asked) k (λ same. apart (omega (arith, same, one, two)))

  -- so another client's attempt stays, with what has landed of it
  pub attempting_stays : (k : ℕ) (a : Attempt) → k ≢ c → IsAttempting s k a → IsAttempting t k a
  attempting_stays k a apart is = record { client = is.client; here = client_stays k apart ∙ is.here; attempt = is.attempt }

  pub landed_stays : (k : ℕ) (a : Attempt) (place : ℕ) (p : Part) → k ≢ c → IsAttempting s k a → HasLanded s.script.fails a (doing_of tr k) place p → HasLanded t.script.fails a (doing_of (traced s t tr c) k) place p
  landed_stays k a place p apart is landed =
      subst (λ fails. HasLanded fails a (doing_of (traced s t tr c) k) place p) (ap (λ x. x.fails) (sym script_stays))
      (subst (λ (d : Doing). HasLanded s.script.fails a d place p) (sym (doing_stays k is.client is.here apart)) landed)

-- a call that isn't to open its file or to begin was under way
pub under_way : (c : ℕ) (asked : Command) (call now : Running) → call_now c call asked ≡ now → is_opening now ≡ false → call ≡ now
under_way c asked running.Idle now e past = absurd (false≢true (sym past ∙ ap is_opening (sym e) ∙ now_opens c asked running.Idle refl))
under_way c asked (running.Read call) now e past = e
under_way c asked (running.Write call) now e past = e
under_way c asked (running.Truncate call) now e past = e
under_way c asked (running.Copy call) now e past = e
under_way c asked (running.Verify call) now e past = e
