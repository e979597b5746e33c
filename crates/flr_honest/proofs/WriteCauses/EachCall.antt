-- What holds of each client's call and of what it has done is kept by a step that keeps it of its own.
use Rattle.std.proofs.Common.{◌≡◌, ◌≢◌, ℕ, zero, suc, ◌-◌, ◌<◌, Some, List, length, ◌⊎◌, inl, inr, sym, ap, subst, ◌∙◌, arith, get_or-set_other, get_or-set_same}
use Rattle.std.proofs.lemmas.Bool.{cases_eq}
use Rattle.std.proofs.lemmas.Option.{slice_get_within}
use Rattle.script_values.specs.declared.command.Command.{Command}
use Rattle.call_steps.specs.Servers.{Servers}
use Rattle.call_steps.specs.Steps.{Outcome, Going, Fixed, Ended, Answered, Blocked}
use Rattle.flr_places.proofs.Keeping.{new_other, new_same, some_same}
use Rattle.flr_steps.specs.declared.client.Client.{Client}
use Rattle.flr_steps.specs.declared.client.Note.{Note}
use Rattle.flr_steps.specs.declared.client.Note.TheVariants.{Nothing, Adds, Closes}
use Rattle.flr_steps.specs.declared.client.Running.{Running}
use Rattle.flr_steps.specs.declared.client.Running.TheVariants as running
use Rattle.flr_steps.specs.Clients.{call_now, entry, first_now, going, over}
use Rattle.flr_steps.specs.Runs.{IsBeside, doing_after}
use Rattle.flr_steps.specs.States.{State, client_at, place_in, stepped}
use Rattle.flr_steps.specs.Steps.{LeavesState, StepIs}
use Rattle.flr_steps.specs.Traces.{Doing, Trace, doing_of, done_with, is_idle, is_opening, made_by, nothing_done, traced, traced_by, with_doing}
use Rattle.flr_steps.proofs.TraceLaws.{steps_are_traced}

-- who is there has a number from 1 on, and a place in the list
there : (clients : List Client) (c : ℕ) (client : Client) → client_at clients c ≡ Some client → (0 < c) × (c - 1 < length clients)
there clients zero client e = absurd (cc)
there clients (suc c) client e = let within = slice_get_within clients c client e in (omega arith, omega (arith, within))

module _ (Q : Running → Doing → Type 0) (idle : (d : Doing) → Q running.Idle d) where
  -- it holds of the call of each client
  abbrev pub EachHas : State → Trace → Type 0
  EachHas s t = (c : ℕ) (client : Client) → client_at s.clients c ≡ Some client → Q client.call (doing_of t c)

  -- where the call goes on it holds of it, by what it has done then
  abbrev pub OnCall : (Servers → Doing) → Outcome Running → Type 0
  OnCall then (Going next after) = Q next (then after)
  OnCall then (Fixed next reply takes after) = Q next (then after)
  OnCall then (Ended after) = Unit {0}
  OnCall then (Answered reply takes after) = Unit {0}
  OnCall then (Blocked holder) = Unit {0}

  module _ (s : State) (c : ℕ) (tr : Trace) (beside : IsBeside s tr) (each : EachHas s tr) (client : Client) (here : client_at s.clients c ≡ Some client) (asked : Command) where
    abbrev call : Running
    call = call_now c client.call asked

    -- what the call has done, once the step left these servers
    abbrev pub then : Servers → Doing
    then after = done_with (is_idle client.call) (is_opening call) (place_in s) (made_by (place_in s) s.shared.targets after.targets) (doing_of tr c)

    within : c - 1 < length tr.running
    within = let same = beside.clients in let less = (there s.clients c client here).1 in omega (arith, same, less)

    mine : (d : Doing) → doing_of (with_doing tr c d) c ≡ d
    mine d = get_or-set_same tr.running (c - 1) d nothing_done within

    theirs : (d : Doing) (k : ℕ) (other : Client) → client_at s.clients k ≡ Some other → k ≢ c → doing_of (with_doing tr c d) k ≡ doing_of tr k
    theirs d k other e apart =
        let one = (there s.clients k other e).0 in
        let two = (there s.clients c client here).0 in
        get_or-set_other tr.running (c - 1) (k - 1) d nothing_done (λ same. apart (omega (arith, same, one, two)))

    stepped_has : (new : Client) (after : Servers) (note : Note) (trace : Trace) (d : Doing) → Q new.call d → doing_of trace c ≡ d
        → ((k : ℕ) (other : Client) → client_at s.clients k ≡ Some other → k ≢ c → doing_of trace k ≡ doing_of tr k)
        → EachHas (stepped s c new after note) trace
    stepped_has new after note trace d own own_doing others k other e = by (cases_eq k c)
      where
        by : (k ≡ c) ⊎ (k ≡ c → ⊥) → Q other.call (doing_of trace k)
        by (inl same) =
            let is : other ≡ new = some_same other new (sym e ∙ ap (client_at (stepped s c new after note).clients) same ∙ new_same s.clients c client new here) in
            subst (λ (x : Client). Q x.call (doing_of trace k)) (sym is) (subst (λ (x : Doing). Q new.call x) (sym (ap (doing_of trace) same ∙ own_doing)) own)
        by (inr apart) =
            let was : client_at s.clients k ≡ Some other = sym (new_other s.clients c k client new here apart) ∙ e in
            subst (λ (x : Doing). Q other.call x) (sym (others k other was apart)) (each k other was)

    left_has : (first : ℕ) (came : Outcome Running) (t : State) → OnCall then came → LeavesState s c client first came t
        → EachHas t (traced_by tr c call (doing_after s t tr c client asked) came)
    left_has first (Going next after) t on left =
        subst (λ (x : State). EachHas x (traced_by tr c call (doing_after s x tr c client asked) (Going next after))) (sym left)
        (stepped_has (going client first next) after Nothing (with_doing tr c (then after)) (then after) on (mine (then after)) (theirs (then after)))
    left_has first (Fixed next reply takes after) t on left =
        subst (λ (x : State). EachHas x (traced_by tr c call (doing_after s x tr c client asked) (Fixed next reply takes after))) (sym left)
        (stepped_has (going client first next) after (Adds (entry c client first (place_in s) 0 reply takes)) (traced_by tr c call (then after) (Fixed next reply takes after)) (then after) on (mine (then after)) (theirs (then after)))
    left_has first (Ended after) t on left =
        subst (λ (x : State). EachHas x (traced_by tr c call (doing_after s x tr c client asked) (Ended after))) (sym left)
        (stepped_has (over client first) after Closes (with_doing tr c (then after)) (then after) (idle (then after)) (mine (then after)) (theirs (then after)))
    left_has first (Answered reply takes after) t on left =
        subst (λ (x : State). EachHas x (traced_by tr c call (doing_after s x tr c client asked) (Answered reply takes after))) (sym left)
        (stepped_has (over client first) after (Adds (entry c client first (place_in s) (place_in s) reply takes)) (traced_by tr c call (then after) (Answered reply takes after)) (then after) (idle (then after)) (mine (then after)) (theirs (then after)))
    left_has first (Blocked holder) t on left = absurd left

  -- a step that leaves it of its own call leaves it of each
  pub step_each : (s t : State) (c : ℕ) (tr : Trace) (beside : IsBeside s tr) (each : EachHas s tr) (step : StepIs s c t)
      → OnCall (then s c tr beside each step.client step.here step.asked) step.came → EachHas t (traced s t tr c)
  step_each s t c tr beside each step on =
      subst (EachHas t) (sym (steps_are_traced s t tr c step)) (left_has s c tr beside each step.client step.here step.asked (first_now step.client.call (place_in s) step.client.first) step.came t on step.left)
