-- A step of any client keeps it, with the trace that goes on.
use Rattle.std.proofs.Common.{◌≡◌, ◌≢◌, ℕ, zero, suc, ◌-◌, ◌<◌, Some, List, length, ◌⊎◌, inl, inr, refl, sym, ap, subst, ◌∙◌, arith, get_or-set_other, get_or-set_same}
use Rattle.std.proofs.lemmas.Bool.{cases_eq}
use Rattle.std.proofs.lemmas.Option.{slice_get_within}
use Rattle.lfs_words.specs.declared.command.LfsCommand.{LfsCommand}
use Rattle.lfs_words.specs.declared.command.LfsCommand.TheVariants as lfs
use Rattle.script_values.specs.declared.command.Command.{Command}
use Rattle.script_values.specs.declared.command.Command.TheVariants as command
use Rattle.script_values.specs.Commands.{IsCommand}
use Rattle.object_target.specs.declared.fail.Fail.{Fail}
use Rattle.call_steps.specs.Servers.{Servers}
use Rattle.call_steps.specs.Steps.{Outcome, Going, Fixed, Ended, Answered, Blocked}
use Rattle.flr_numbers.specs.Hands.{Has}
use Rattle.flr_numbers.specs.Sentences.{IsCallOf, hand_of}
use Rattle.flr_numbers.proofs.Clients.{has_now, is_now}
use Rattle.flr_numbers.proofs.Commands.{is_command}
use Rattle.flr_places.proofs.Keeping.{new_other, new_same, some_same}
use Rattle.flr_steps.specs.declared.client.Client.{Client}
use Rattle.flr_steps.specs.declared.client.Note.{Note}
use Rattle.flr_steps.specs.declared.client.Note.TheVariants.{Nothing, Adds, Closes}
use Rattle.flr_steps.specs.declared.client.Running.{Running}
use Rattle.flr_steps.specs.declared.client.Running.TheVariants as running
use Rattle.flr_steps.specs.Clients.{call_now, entry, first_now, going, over}
use Rattle.flr_steps.specs.Commands.{begun, begun_lfs}
use Rattle.flr_steps.specs.Runs.{IsBeside, doing_after}
use Rattle.flr_steps.specs.States.{State, client_at, place_in, stepped}
use Rattle.flr_steps.specs.Steps.{LeavesState}
use Rattle.flr_steps.specs.Traces.{Doing, Made, Trace, doing_of, done_with, is_idle, is_opening, made_by, nothing_done, sent_calls, traced_by, with_doing}
use Rattle.flr_steps.proofs.TraceLaws.{steps_are_traced}
use Rattle.flr_sole.proofs.Keeping.{now_opens}
use Rattle.flr_bytes.specs.Sent.{AreSent, CallSent}
use Rattle.flr_bytes.specs.Laws.{StepsKeepSent}
use Rattle.flr_honest.proofs.Sent.Turning.{OnStep, step_on}

-- ---- a call that begins has sent nothing

module _ (fails : List Fail) (made : List Made) where
  lfs_sent : (c : ℕ) (of : LfsCommand) → CallSent fails (begun_lfs c of) made
  lfs_sent c (lfs.Resync name only) = tt
  lfs_sent c (lfs.Extend name spec) = tt
  lfs_sent c (lfs.ExtendBy name victim) = tt
  lfs_sent c (lfs.Verify name) = tt
  lfs_sent c (lfs.SetStripe name spec) = tt
  lfs_sent c (lfs.GetStripe name) = tt
  lfs_sent c (lfs.CompSet name id change) = tt
  lfs_sent c (lfs.Create name spec) = tt
  lfs_sent c (lfs.Split name mirror to) = tt
  lfs_sent c (lfs.Delete name mirror) = tt

  begun_sent : (c : ℕ) (asked : Command) → CallSent fails (begun c asked) made
  begun_sent c (command.Read name offset len) = tt
  begun_sent c (command.Write name offset bytes) = tt
  begun_sent c (command.Truncate name size) = tt
  begun_sent c (command.Lfs of) = lfs_sent c of
  begun_sent c (command.Evict other) = tt
  begun_sent c (command.Rot object offset byte) = tt

  now_sent : (c : ℕ) (asked : Command) (call : Running) → CallSent fails call made → CallSent fails (call_now c call asked) made
  now_sent c asked running.Idle sent = begun_sent c asked
  now_sent c asked (running.Read call) sent = sent
  now_sent c asked (running.Write call) sent = sent
  now_sent c asked (running.Truncate call) sent = sent
  now_sent c asked (running.Copy call) sent = sent
  now_sent c asked (running.Verify call) sent = sent

-- ---- a step

-- who is there has a number from 1 on, and a place in the list
there : (clients : List Client) (c : ℕ) (client : Client) → client_at clients c ≡ Some client → (0 < c) × (c - 1 < length clients)
there clients zero client e = absurd (cc)
there clients (suc c) client e = let within = slice_get_within clients c client e in (omega arith, omega (arith, within))

module _ (s : State) (c : ℕ) (tr : Trace) (beside : IsBeside s tr) (sent : AreSent s tr) (client : Client) (here : client_at s.clients c ≡ Some client) (asked : Command) where
  abbrev call : Running
  call = call_now c client.call asked

  -- what the call has done, once the step left these servers
  abbrev then : Servers → Doing
  then after = done_with (is_idle client.call) (is_opening call) (place_in s) (made_by (place_in s) s.shared.targets after.targets) (doing_of tr c)

  within : c - 1 < length tr.running
  within = let same = beside.clients in let less = (there s.clients c client here).1 in omega (arith, same, less)

  mine : (d : Doing) → doing_of (with_doing tr c d) c ≡ d
  mine d = get_or-set_same tr.running (c - 1) d nothing_done within

  theirs : (d : Doing) (k : ℕ) (other : Client) → client_at s.clients k ≡ Some other → k ≢ c → doing_of (with_doing tr c d) k ≡ doing_of tr k
  theirs d k other e apart =
      let one = (there s.clients k other e).0 in
      let two = (there s.clients c client here).0 in
      get_or-set_other tr.running (c - 1) (k - 1) d nothing_done (λ same. apart (omega (arith, same, one, two)))

  -- the client's call has sent so much, and all others stay
  stepped_sent : (new : Client) (after : Servers) (note : Note) (trace : Trace) (d : Doing) → CallSent s.script.fails new.call (sent_calls d) → doing_of trace c ≡ d → ((k : ℕ) (other : Client) → client_at s.clients k ≡ Some other → k ≢ c → doing_of trace k ≡ doing_of tr k)
      → AreSent (stepped s c new after note) trace
  stepped_sent new after note trace d own own_doing others k other e = by (cases_eq k c)
    where
      by : (k ≡ c) ⊎ (k ≡ c → ⊥) → CallSent s.script.fails other.call (sent_calls (doing_of trace k))
      by (inl same) =
          let is : other ≡ new = some_same other new (sym e ∙ ap (client_at (stepped s c new after note).clients) same ∙ new_same s.clients c client new here) in
          subst (λ (x : Client). CallSent s.script.fails x.call (sent_calls (doing_of trace k))) (sym is) (subst (λ (x : Doing). CallSent s.script.fails new.call (sent_calls x)) (sym (ap (doing_of trace) same ∙ own_doing)) own)
      by (inr apart) =
          let was : client_at s.clients k ≡ Some other = sym (new_other s.clients c k client new here apart) ∙ e in
          subst (λ (x : Doing). CallSent s.script.fails other.call (sent_calls x)) (sym (others k other was apart)) (sent k other was)

  left_sent : (first : ℕ) (came : Outcome Running) (t : State) → OnStep s.script.fails then came → LeavesState s c client first came t → AreSent t (traced_by tr c call (doing_after s t tr c client asked) came)
  left_sent first (Going next after) t on left =
      subst (λ (x : State). AreSent x (traced_by tr c call (doing_after s x tr c client asked) (Going next after))) (sym left)
      (stepped_sent (going client first next) after Nothing (with_doing tr c (then after)) (then after) on (mine (then after)) (theirs (then after)))
  left_sent first (Fixed next reply takes after) t on left =
      subst (λ (x : State). AreSent x (traced_by tr c call (doing_after s x tr c client asked) (Fixed next reply takes after))) (sym left)
      (stepped_sent (going client first next) after (Adds (entry c client first (place_in s) 0 reply takes)) (traced_by tr c call (then after) (Fixed next reply takes after)) (then after) on (mine (then after)) (theirs (then after)))
  left_sent first (Ended after) t on left =
      subst (λ (x : State). AreSent x (traced_by tr c call (doing_after s x tr c client asked) (Ended after))) (sym left)
      (stepped_sent (over client first) after Closes (with_doing tr c (then after)) (then after) tt (mine (then after)) (theirs (then after)))
  left_sent first (Answered reply takes after) t on left =
      subst (λ (x : State). AreSent x (traced_by tr c call (doing_after s x tr c client asked) (Answered reply takes after))) (sym left)
      (stepped_sent (over client first) after (Adds (entry c client first (place_in s) (place_in s) reply takes)) (traced_by tr c call (then after) (Answered reply takes after)) (then after) tt (mine (then after)) (theirs (then after)))
  left_sent first (Blocked holder) t on left = absurd left

-- each step keeps it
pub step_sent : StepsKeepSent
step_sent s t c tr h listed beside sole sent step =
    let client : Client = step.client in
    let of = h.clients c client step.here in
    let le = h.script.form.few_mirrors in
    let few = h.script.form.few_clients in
    let good : IsCommand s.script.most s.script.targets (length s.script.clients) step.asked = is_command s.script c client.done step.asked h.script step.commanded in
    let call : Running = call_now c client.call step.asked in
    let is : IsCallOf c call = is_now c s.shared step.asked s.script.most s.script.targets (length s.script.clients) le few good client.call of.call in
    let has : Has c s.shared.meta s.shared.locks (hand_of call) = has_now c s.shared step.asked s.script.most s.script.targets (length s.script.clients) le few good client.call of.has in
    let on : OnStep s.script.fails (then s c tr beside sent client step.here step.asked) step.came =
    subst (λ (o : Outcome Running). OnStep s.script.fails (then s c tr beside sent client step.here step.asked) o) step.made
    (step_on s.script.fails (place_in s) s.shared h.servers listed c step.asked (doing_of tr c) (is_idle client.call) (length s.schedule) refl (sole.past c client step.here) call is has (now_opens c step.asked client.call)
    (now_sent s.script.fails (sent_calls (doing_of tr c)) c step.asked client.call (sent c client step.here))) in
    subst (AreSent t) (sym (steps_are_traced s t tr c step)) (left_sent s c tr beside sent client step.here step.asked (first_now client.call (place_in s) client.first) step.came t on step.left)
