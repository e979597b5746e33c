-- A step of any client keeps it, with the trace that goes on.
use Rattle.std.proofs.Common.{◌≡◌, ◌≢◌, ℕ, zero, suc, ◌-◌, ◌<◌, Option, Some, List, length, refl, sym, subst, ◌∙◌, arith, get_or-set_other, get_or-set_same}
use Rattle.std.proofs.lemmas.Option.{slice_get_within}
use Rattle.script_values.specs.declared.command.Command.{Command}
use Rattle.script_values.specs.Commands.{IsCommand}
use Rattle.call_steps.specs.Servers.{Servers}
use Rattle.call_steps.specs.Steps.{Outcome, Going, Fixed, Ended, Answered, Blocked}
use Rattle.flr_behind.specs.Sentences.{Known}
use Rattle.flr_locks.specs.Sentences.{Locked}
use Rattle.flr_numbers.specs.Hands.{Fine, Has}
use Rattle.flr_numbers.specs.Sentences.{HasRoom, Holds, IsCallOf, hand_of}
use Rattle.flr_numbers.proofs.Clients.{has_now, is_now}
use Rattle.flr_numbers.proofs.Commands.{is_command}
use Rattle.flr_numbers.proofs.Keeping.{came_fine}
use Rattle.flr_steps.specs.declared.client.Client.{Client}
use Rattle.flr_steps.specs.declared.client.Note.TheVariants.{Nothing, Adds, Closes}
use Rattle.flr_steps.specs.declared.client.Running.{Running}
use Rattle.flr_steps.specs.Clients.{call_now, entry, first_now, going, over}
use Rattle.flr_steps.specs.Runs.{IsBeside, doing_after}
use Rattle.flr_steps.specs.States.{State, client_at, place_in}
use Rattle.flr_steps.specs.Steps.{LeavesState, StepIs}
use Rattle.flr_steps.specs.Traces.{Doing, Trace, doing_of, done_with, is_idle, is_opening, made_by, nothing_done, traced, traced_by, with_doing}
use Rattle.flr_steps.proofs.TraceLaws.{steps_are_traced}
use Rattle.flr_claims.specs.Sending.{Attempt, attempt_of}
use Rattle.flr_sole.specs.Runs.{Sole}
use Rattle.flr_sole.specs.Sentences.{IsPast}
use Rattle.flr_sole.proofs.Keeping.{alone, lands, now_attempts, now_opens, now_says, now_sent, stepped_sole, written}
use Rattle.flr_sole.proofs.Making.{done_past, made_placed}
use Rattle.flr_sole.proofs.Sending.{GivesUp, Turns}
use Rattle.flr_sole.proofs.Targets.{Grows}
use Rattle.flr_sole.proofs.Turning.{OnStep, step_on}

-- who is there has a number from 1 on, and a place in the list
there : (clients : List Client) (c : ℕ) (client : Client) → client_at clients c ≡ Some client → (0 < c) × (c - 1 < length clients)
there clients zero client e = absurd (cc)
there clients (suc c) client e = let within = slice_get_within clients c client e in (omega arith, omega (arith, within))

module _ (s : State) (c : ℕ) (tr : Trace) (h : Holds s) (known : Known s) (locked : Locked s) (beside : IsBeside s tr) (sole : Sole s tr) (client : Client) (here : client_at s.clients c ≡ Some client) (asked : Command) where
  abbrev call : Running
  call = call_now c client.call asked

  -- what the call has done, once the step left these servers
  abbrev then : Servers → Doing
  then after = done_with (is_idle client.call) (is_opening call) (place_in s) (made_by (place_in s) s.shared.targets after.targets) (doing_of tr c)

  within : c - 1 < length tr.running
  within = let same = beside.clients in let less = (there s.clients c client here).1 in omega (arith, same, less)

  mine : (d : Doing) → doing_of (with_doing tr c d) c ≡ d
  mine d = get_or-set_same tr.running (c - 1) d nothing_done within

  theirs : (d : Doing) (k : ℕ) (other : Client) → client_at s.clients k ≡ Some other → k ≢ c → doing_of (with_doing tr c d) k ≡ doing_of tr k
  theirs d k other e apart =
      let one = (there s.clients k other e).0 in
      let two = (there s.clients c client here).0 in
      get_or-set_other tr.running (c - 1) (k - 1) d nothing_done (λ same. apart (omega (arith, same, one, two)))

  is_past : (after : Servers) → IsPast (place_in s) (then after)
  is_past after = done_past (is_idle client.call) (is_opening call) (length s.schedule) (place_in s) (made_by (place_in s) s.shared.targets after.targets) (doing_of tr c) (omega arith) (made_placed (place_in s) s.shared.targets after.targets) (sole.past c client here)

  -- the attempt of a call that begins is none, as that of who has no call
  turned : (is : Option Attempt) (after : Servers) (d : Doing) → Turns s.script.fails s.shared (attempt_of call) (doing_of tr c) is after d → Turns s.script.fails s.shared (attempt_of client.call) (doing_of tr c) is after d
  turned is after d turn = subst (λ (o : Option Attempt). Turns s.script.fails s.shared o (doing_of tr c) is after d) (now_attempts c asked client.call) turn

  left_sole : (first : ℕ) (came : Outcome Running) (t : State) → OnStep s.script.fails (place_in s) s.shared h.servers (lands s c tr h known locked sole) (attempt_of call) (doing_of tr c) then came → Fine c hand_of (IsCallOf c) s.shared came → LeavesState s c client first came t
      → Sole t (traced_by tr c call (doing_after s t tr c client asked) came)
  left_sole first (Going next after) t on fine left =
      subst (λ (x : State). Sole x (traced_by tr c call (doing_after s x tr c client asked) (Going next after))) (sym left)
      (stepped_sole s c tr h known locked sole client here (going client first next) after Nothing (with_doing tr c (then after)) (then after) (turned (attempt_of next) after (then after) on.0) on.1 on.2 on.3 fine.0.changes.meta (is_past after) fine.0.servers.sound (mine (then after)) (theirs (then after)))
  left_sole first (Fixed next reply takes after) t on fine left =
      subst (λ (x : State). Sole x (traced_by tr c call (doing_after s x tr c client asked) (Fixed next reply takes after))) (sym left)
      (stepped_sole s c tr h known locked sole client here (going client first next) after (Adds (entry c client first (place_in s) 0 reply takes)) (traced_by tr c call (then after) (Fixed next reply takes after)) (then after) (turned (attempt_of next) after (then after) on.0) on.1 on.2 on.3 fine.0.changes.meta (is_past after) fine.0.servers.sound (mine (then after)) (theirs (then after)))
  left_sole first (Ended after) t on fine left =
      subst (λ (x : State). Sole x (traced_by tr c call (doing_after s x tr c client asked) (Ended after))) (sym left)
      (stepped_sole s c tr h known locked sole client here (over client first) after Closes (with_doing tr c (then after)) (then after) (GivesUp refl) tt tt on fine.changes.meta (is_past after) fine.servers.sound (mine (then after)) (theirs (then after)))
  left_sole first (Answered reply takes after) t on fine left =
      subst (λ (x : State). Sole x (traced_by tr c call (doing_after s x tr c client asked) (Answered reply takes after))) (sym left)
      (stepped_sole s c tr h known locked sole client here (over client first) after (Adds (entry c client first (place_in s) (place_in s) reply takes)) (traced_by tr c call (then after) (Answered reply takes after)) (then after) (GivesUp refl) tt tt on fine.changes.meta (is_past after) fine.servers.sound (mine (then after)) (theirs (then after)))
  left_sole first (Blocked holder) t on fine left = absurd left

module _ (s t : State) (c : ℕ) (tr : Trace) (h : Holds s) (known : Known s) (locked : Locked s) (sole : Sole s tr) (step : StepIs s c t) where
  -- what the step of the call does
  on_came : OnStep s.script.fails (place_in s) s.shared h.servers (lands s c tr h known locked sole) (attempt_of (call_now c step.client.call step.asked)) (doing_of tr c)
      (λ after. done_with (is_idle step.client.call) (is_opening (call_now c step.client.call step.asked)) (place_in s) (made_by (place_in s) s.shared.targets after.targets) (doing_of tr c)) step.came
  on_came =
      let client : Client = step.client in
      let of = h.clients c client step.here in
      let le = h.script.form.few_mirrors in
      let few = h.script.form.few_clients in
      let good : IsCommand s.script.most s.script.targets (length s.script.clients) step.asked = is_command s.script c client.done step.asked h.script step.commanded in
      let call : Running = call_now c client.call step.asked in
      let is : IsCallOf c call = is_now c s.shared step.asked s.script.most s.script.targets (length s.script.clients) le few good client.call of.call in
      let has : Has c s.shared.meta s.shared.locks (hand_of call) = has_now c s.shared step.asked s.script.most s.script.targets (length s.script.clients) le few good client.call of.has in
      subst (λ (o : Outcome Running). OnStep s.script.fails (place_in s) s.shared h.servers (lands s c tr h known locked sole) (attempt_of call) (doing_of tr c) (λ after. done_with (is_idle client.call) (is_opening call) (place_in s) (made_by (place_in s) s.shared.targets after.targets) (doing_of tr c)) o) step.made
      (step_on s.script.fails (place_in s) s.shared h.servers (lands s c tr h known locked sole) c step.asked (doing_of tr c) (is_idle client.call) (length s.schedule) refl (sole.past c client step.here) call is has (now_opens c step.asked client.call)
      (now_sent c step.asked client.call (doing_of tr c) (sole.sent c client step.here))
      (now_says s.shared.meta s.shared.targets (lands s c tr h known locked sole) c step.asked client.call (sole.copies c client step.here))
      (alone s c tr h known locked sole) (λ none. written s c tr h known locked sole client step.here (sym (now_attempts c step.asked client.call) ∙ none)))

  -- no version falls
  grows_by : (first : ℕ) (came : Outcome Running) → OnStep s.script.fails (place_in s) s.shared h.servers (lands s c tr h known locked sole) (attempt_of (call_now c step.client.call step.asked)) (doing_of tr c)
      (λ after. done_with (is_idle step.client.call) (is_opening (call_now c step.client.call step.asked)) (place_in s) (made_by (place_in s) s.shared.targets after.targets) (doing_of tr c)) came → LeavesState s c step.client first came t → Grows s.shared.targets t.shared.targets
  grows_by first (Going next after) on left = subst (λ (x : State). Grows s.shared.targets x.shared.targets) (sym left) on.3.1
  grows_by first (Fixed next reply takes after) on left = subst (λ (x : State). Grows s.shared.targets x.shared.targets) (sym left) on.3.1
  grows_by first (Ended after) on left = subst (λ (x : State). Grows s.shared.targets x.shared.targets) (sym left) on.1
  grows_by first (Answered reply takes after) on left = subst (λ (x : State). Grows s.shared.targets x.shared.targets) (sym left) on.1
  grows_by first (Blocked holder) on left = absurd left

  pub step_grows : Grows s.shared.targets t.shared.targets
  step_grows = grows_by (first_now step.client.call (place_in s) step.client.first) step.came on_came step.left

pub step_sole : (s t : State) (c : ℕ) (tr : Trace) → Holds s → HasRoom s.shared → Known s → Locked s → IsBeside s tr → Sole s tr → StepIs s c t → Sole t (traced s t tr c)
step_sole s t c tr h room known locked beside sole step =
    subst (Sole t) (sym (steps_are_traced s t tr c step))
    (left_sole s c tr h known locked beside sole step.client step.here step.asked (first_now step.client.call (place_in s) step.client.first) step.came t (on_came s t c tr h known locked sole step) (came_fine s t c h room step) step.left)
