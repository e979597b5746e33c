-- When a client's call last opened its file, after each step.
use Rattle.std.proofs.Common.{◌≡◌, ◌≢◌, ℕ, zero, suc, ◌+◌, ◌-◌, ◌<◌, ◌≤◌, Bool, true, false, Some, List, [], ◌∷◌, ◌++◌, length, refl, ap, ◌∙◌, arith, get_or-set_other, get_or-set_same}
use Rattle.std.proofs.lemmas.Option.{slice_get_within}
use Rattle.script_values.specs.declared.command.Command.{Command}
use Rattle.meta_server.specs.declared.answers.Opened.{Opened}
use Rattle.call_steps.specs.Steps.{Outcome, Going, Fixed, Ended, Answered, Blocked}
use Rattle.client_read.specs.declared.phase.ReadAt.{ReadAt}
use Rattle.client_read.specs.declared.phase.ReadAt.TheVariants as read
use Rattle.client_write.specs.declared.phase.CutAt.{CutAt}
use Rattle.client_write.specs.declared.phase.CutAt.TheVariants as cut
use Rattle.client_write.specs.declared.phase.WriteAt.{WriteAt}
use Rattle.client_write.specs.declared.phase.WriteAt.TheVariants as write
use Rattle.mirror_verify.specs.declared.phase.VerifyAt.{VerifyAt}
use Rattle.mirror_verify.specs.declared.phase.VerifyAt.TheVariants as verify
use Rattle.resync_copy.specs.declared.phase.CopyAt.{CopyAt}
use Rattle.resync_copy.specs.declared.phase.CopyAt.TheVariants as copy
use Rattle.flr_numbers.specs.Calls.{cut_hand, read_hand, verify_hand, write_hand}
use Rattle.flr_numbers.specs.Copies.{copy_hand}
use Rattle.flr_numbers.specs.Sentences.{hand_of}
use Rattle.flr_steps.specs.declared.client.Client.{Client}
use Rattle.flr_steps.specs.declared.client.Running.{Running}
use Rattle.flr_steps.specs.declared.client.Running.TheVariants as running
use Rattle.flr_steps.specs.Clients.{call_now, first_now}
use Rattle.flr_steps.specs.Runs.{doing_after}
use Rattle.flr_steps.specs.States.{State, Stepped, after, client_at, next, start}
use Rattle.flr_steps.specs.Steps.{LeavesState, StepIs}
use Rattle.flr_steps.specs.Traces.{Doing, Made, Trace, copy_begins, cut_opens, doing_of, done_with, is_idle, is_opening, nothing_done, read_opens, trace_after, traced_by, verify_opens, write_opens}
use Rattle.flr_steps.proofs.TraceLaws.{steps_are_traced, trace_goes_on, traces_stand_beside}
use Rattle.flr_evicted.specs.Sentences.{opened_at}

-- ---- a call that has a file open doesn't open one at its next step

read_shut : (at : ReadAt) (o : Opened) → (read_hand at).opened ≡ Some o → read_opens at ≡ false
read_shut read.Open o e = absurd (cc)
read_shut (read.Lock x next) o e = refl
read_shut (read.Take x next) o e = refl
read_shut (read.Again x) o e = refl
read_shut (read.Confirm x) o e = refl
read_shut read.UnlockAgain o e = refl
read_shut read.Unlock o e = refl

write_shut : (at : WriteAt) (o : Opened) → (write_hand at).opened ≡ Some o → write_opens at ≡ false
write_shut write.Open o e = absurd (cc)
write_shut (write.Lock x next) o e = refl
write_shut (write.Send x next) o e = refl
write_shut (write.Commit x end came) o e = refl
write_shut write.UnlockAgain o e = refl
write_shut write.Unlock o e = refl

cut_shut : (at : CutAt) (o : Opened) → (cut_hand at).opened ≡ Some o → cut_opens at ≡ false
cut_shut cut.Open o e = absurd (cc)
cut_shut (cut.Lock x) o e = refl
cut_shut (cut.Punch x next) o e = refl
cut_shut (cut.Commit x came) o e = refl
cut_shut cut.UnlockAgain o e = refl
cut_shut cut.Unlock o e = refl

verify_shut : (at : VerifyAt) (o : Opened) → (verify_hand at).opened ≡ Some o → verify_opens at ≡ false
verify_shut verify.Open o e = absurd (cc)
verify_shut (verify.Take x next) o e = refl
verify_shut (verify.Close x fault) o e = refl

copy_shut : (at : CopyAt) (o : Opened) → (copy_hand at).opened ≡ Some o → copy_begins at ≡ false
copy_shut copy.Begin o e = absurd (cc)
copy_shut (copy.Copy next) o e = refl
copy_shut (copy.Merge next) o e = refl

-- ---- the place of the open

module _ (c : ℕ) (asked : Command) (place : ℕ) (made : List Made) (d : Doing) where
  -- a call that has its file open opened it where it had
  pub still_opened : (call : Running) (o : Opened) → (hand_of call).opened ≡ Some o → (done_with (is_idle call) (is_opening (call_now c call asked)) place made d).opened ≡ d.opened
  still_opened running.Idle o e = absurd (cc)
  still_opened (running.Read call) o e = ap (λ (b : Bool). (done_with false b place made d).opened) (read_shut call.at o e)
  still_opened (running.Write call) o e = ap (λ (b : Bool). (done_with false b place made d).opened) (write_shut call.at o e)
  still_opened (running.Truncate call) o e = ap (λ (b : Bool). (done_with false b place made d).opened) (cut_shut call.at o e)
  still_opened (running.Copy call) o e = ap (λ (b : Bool). (done_with false b place made d).opened) (copy_shut call.at o e)
  still_opened (running.Verify call) o e = ap (λ (b : Bool). (done_with false b place made d).opened) (verify_shut call.at o e)

  -- it lies between the call's first step and this one
  module _ (first : ℕ) (low : first ≤ d.opened) (high : d.opened ≤ place) where
    busy : (opens : Bool) → (first ≤ (done_with false opens place made d).opened) × ((done_with false opens place made d).opened ≤ place)
    busy true = (omega (arith, low, high), omega arith)
    busy false = (low, high)

    pub opened_between : (call : Running) → (first_now call place first ≤ (done_with (is_idle call) (is_opening (call_now c call asked)) place made d).opened) × ((done_with (is_idle call) (is_opening (call_now c call asked)) place made d).opened ≤ place)
    opened_between running.Idle = (omega arith, omega arith)
    opened_between (running.Read call) = busy (read_opens call.at)
    opened_between (running.Write call) = busy (write_opens call.at)
    opened_between (running.Truncate call) = busy (cut_opens call.at)
    opened_between (running.Copy call) = busy (copy_begins call.at)
    opened_between (running.Verify call) = busy (verify_opens call.at)

-- ---- after a step

-- who is there has a number from 1 on, and a place in the list
there : (clients : List Client) (c : ℕ) (client : Client) → client_at clients c ≡ Some client → (0 < c) × (c - 1 < length clients)
there clients zero client e = absurd (cc)
there clients (suc c) client e = let within = slice_get_within clients c client e in (omega arith, omega (arith, within))

module _ (s t : State) (c : ℕ) (run : after (start s.script) s.schedule ≡ Some s) (made : next s c ≡ Stepped t) (script : t.script ≡ s.script) (schedule : t.schedule ≡ s.schedule ++ c ∷ []) (step : StepIs s c t) where
  abbrev before : Trace
  before = trace_after s.script s.schedule

  -- what the call has done by then
  abbrev done : Doing
  done = doing_after s t before c step.client step.asked

  abbrev traced_then : (came : Outcome Running) → Trace
  traced_then came = traced_by before c (call_now c step.client.call step.asked) done came

  later : trace_after t.script t.schedule ≡ traced_then step.came
  later = (λ j. trace_after (script j) (schedule j)) ∙ trace_goes_on s.script s.schedule s t c run made ∙ steps_are_traced s t before c step

  within : c - 1 < length before.running
  within = let beside = traces_stand_beside s.script s.schedule s run in let same = beside.clients in let less = (there s.clients c step.client step.here).1 in omega (arith, same, less)

  here : (first : ℕ) (came : Outcome Running) → LeavesState s c step.client first came t → doing_of (traced_then came) c ≡ done
  here first (Going next after) left = get_or-set_same before.running (c - 1) done nothing_done within
  here first (Fixed next reply takes after) left = get_or-set_same before.running (c - 1) done nothing_done within
  here first (Ended after) left = get_or-set_same before.running (c - 1) done nothing_done within
  here first (Answered reply takes after) left = get_or-set_same before.running (c - 1) done nothing_done within
  here first (Blocked holder) left = absurd left

  -- the client that stepped
  pub opened_here : opened_at t c ≡ done.opened
  opened_here = ap (λ (trace : Trace). (doing_of trace c).opened) later ∙ ap (λ (d : Doing). d.opened) (here (first_now step.client.call (length s.schedule + 1) step.client.first) step.came step.left)

  module _ (k : ℕ) (other : Client) (beside : client_at s.clients k ≡ Some other) (apart : k ≢ c) where
    not_there : k - 1 ≡ c - 1 → ⊥
    not_there same = let one = (there s.clients k other beside).0 in let two = (there s.clients c step.client step.here).0 in apart (omega (arith, same, one, two))

    elsewhere : (came : Outcome Running) → doing_of (traced_then came) k ≡ doing_of before k
    elsewhere (Going next after) = get_or-set_other before.running (c - 1) (k - 1) done nothing_done not_there
    elsewhere (Fixed next reply takes after) = get_or-set_other before.running (c - 1) (k - 1) done nothing_done not_there
    elsewhere (Ended after) = get_or-set_other before.running (c - 1) (k - 1) done nothing_done not_there
    elsewhere (Answered reply takes after) = get_or-set_other before.running (c - 1) (k - 1) done nothing_done not_there
    elsewhere (Blocked holder) = refl

    -- any other
    pub opened_elsewhere : opened_at t k ≡ opened_at s k
    opened_elsewhere = ap (λ (trace : Trace). (doing_of trace k).opened) later ∙ ap (λ (d : Doing). d.opened) (elsewhere step.came)
