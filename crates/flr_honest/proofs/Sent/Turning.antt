-- What a step of any call has sent.
use Rattle.std.proofs.Common.{◌≡◌, ℕ, ◌+◌, ◌<◌, Bool, true, false, List, [], refl, sym, ◌∙◌, arith}
use Rattle.std.proofs.lemmas.Bool.{false≢true}
use Rattle.flr_base.specs.declared.reply.Reply.{Reply}
use Rattle.object_target.specs.declared.fail.Fail.{Fail}
use Rattle.script_values.specs.declared.command.Command.{Command}
use Rattle.script_values.specs.declared.command.Command.TheVariants as command
use Rattle.mirror_admin.specs.OneStep.{one_step}
use Rattle.meta_server.specs.Files.{MetaView}
use Rattle.meta_server.specs.Outcomes.{Gives, Refuses, Waits}
use Rattle.meta_server.specs.Outcomes as meta
use Rattle.call_steps.specs.Servers.{Servers}
use Rattle.call_steps.specs.Steps.{Outcome, Going, Fixed, Ended, Answered, Blocked, widen}
use Rattle.client_read.specs.Reads.{read_step}
use Rattle.client_write.specs.Calls.{TruncateView, WriteView}
use Rattle.client_write.specs.Truncates.{truncate_at}
use Rattle.client_write.specs.Writes.{write_at}
use Rattle.mirror_verify.specs.Verifies.{verify_step}
use Rattle.resync_copy.specs.Steps.{copy_step}
use Rattle.flr_numbers.specs.Hands.{AreServers, Has}
use Rattle.flr_numbers.specs.Sentences.{IsCallOf, hand_of}
use Rattle.flr_numbers.proofs.CallFits.{are_there}
use Rattle.flr_steps.specs.declared.client.Running.{Running}
use Rattle.flr_steps.specs.declared.client.Running.TheVariants as running
use Rattle.flr_steps.specs.Commands.{answered_by, at_once, step_of}
use Rattle.flr_steps.specs.Traces.{Doing, Made, cut_opens, done_with, is_opening, made_by, sent_calls, write_opens}
use Rattle.flr_work.specs.Paying.{AreListed}
use Rattle.flr_sole.specs.Sentences.{IsPast}
use Rattle.flr_sole.proofs.Making.{made_none, opens_none}
use Rattle.flr_bytes.specs.Sent.{CallSent, CutSent, WriteSent}
use Rattle.flr_honest.proofs.Sent.Cutting.{OnCut, cut_opened, cut_sent}
use Rattle.flr_honest.proofs.Sent.Parts.{OnSent, behind}
use Rattle.flr_honest.proofs.Sent.Sending.{OnWrite, write_opened, write_sent}

module _ (fails : List Fail) where
  -- a call that goes on has sent what its phase says
  abbrev pub OnStep : (Servers → Doing) → Outcome Running → Type 0
  OnStep then o = OnSent (CallSent fails) then o

  -- what a step of a call leaves it leaves of the client's call
  of_client : {C : Type 0} (call : C → Running) (sent : C → List Made → Type 0) → ((x : C) (made : List Made) → sent x made → CallSent fails (call x) made) → (then : Servers → Doing) (o : Outcome C) → OnSent sent then o → OnStep then (widen call o)
  of_client call sent so then (Going next after) h = so next (sent_calls (then after)) h
  of_client call sent so then (Fixed next reply takes after) h = so next (sent_calls (then after)) h
  of_client call sent so then (Ended after) h = tt
  of_client call sent so then (Answered reply takes after) h = tt
  of_client call sent so then (Blocked holder) h = tt

  -- of a call that sends nothing there is nothing to say
  sends_none : {C : Type 0} (call : C → Running) → ((x : C) (made : List Made) → CallSent fails (call x) made) → (then : Servers → Doing) (o : Outcome C) → OnStep then (widen call o)
  sends_none call none then (Going next after) = none next (sent_calls (then after))
  sends_none call none then (Fixed next reply takes after) = none next (sent_calls (then after))
  sends_none call none then (Ended after) = tt
  sends_none call none then (Answered reply takes after) = tt
  sends_none call none then (Blocked holder) = tt

  answers : (then : Servers → Doing) (s : Servers) (o : meta.Outcome Reply) → OnStep then (answered_by s o)
  answers then s (Gives answer after) = tt
  answers then s (Refuses answer) = tt
  answers then s (Waits holder) = tt

  once : (then : Servers → Doing) (client place : ℕ) (s : Servers) (asked : Command) → OnStep then (at_once client asked place s)
  once then client place s (command.Read name offset len) = tt
  once then client place s (command.Write name offset bytes) = tt
  once then client place s (command.Truncate name size) = tt
  once then client place s (command.Lfs of) = answers then s (one_step client of place s.meta)
  once then client place s (command.Evict other) = tt
  once then client place s (command.Rot object offset byte) = tt

module _ (fails : List Fail) (place : ℕ) (s : Servers) (h : AreServers s.meta s.targets) (listed : AreListed fails s.targets) (client : ℕ) (asked : Command) (d : Doing) (idle : Bool) (now : ℕ) (next : place ≡ now + 1) (past : IsPast now d) where
  -- what the call has done, by whether it opens its file at this step
  abbrev pub then_done : Bool → Servers → Doing
  then_done opens after = done_with idle opens place (made_by place s.targets after.targets) d

  opened_now : (m : MetaView) → sent_calls (then_done true (record s { meta = m })) ≡ []
  opened_now m = opens_none idle now place (made_by place s.targets s.targets) d (omega (arith, next)) (made_none place s.targets) past

  before : d.opened < place
  before = let low = past.opened in omega (arith, low, next)

  -- a call that is under way isn't begun here
  busy_on : {C : Type 0} (sent : C → List Made → Type 0) (b : Bool) → (b ≡ true → ⊥) → (o : Outcome C) → OnSent sent (behind place s d) o → OnSent sent (λ after. done_with b false place (made_by place s.targets after.targets) d) o
  busy_on sent true not o t = absurd (not refl)
  busy_on sent false not o t = t

  write_on : (w : WriteView) → IsCallOf client (running.Write w) → Has client s.meta s.locks (hand_of (running.Write w)) → (idle ≡ true → write_opens w.at ≡ true) → WriteSent fails w.at (sent_calls d) → OnWrite fails place s listed d w (then_done (write_opens w.at)) (write_at w.at w place s)
  write_on w of has begins sent = by (write_opens w.at) refl
    where
      by : (b : Bool) → write_opens w.at ≡ b → OnWrite fails place s listed d w (then_done b) (write_at w.at w place s)
      by true e = write_opened fails place s listed d w (then_done true) opened_now w.at e
      by false e =
          busy_on (λ (x : WriteView) (made : List Made). WriteSent fails x.at made) idle (λ i. false≢true (sym e ∙ begins i)) (write_at w.at w place s)
          (write_sent fails place s listed d w w.at before e of.1 of.2 (λ x k. are_there s.meta s.targets x.layout h (has.opened x k)) sent)

  cut_on : (t : TruncateView) → IsCallOf client (running.Truncate t) → Has client s.meta s.locks (hand_of (running.Truncate t)) → (idle ≡ true → cut_opens t.at ≡ true) → CutSent fails t.size t.at (sent_calls d) → OnCut fails place s listed d t (then_done (cut_opens t.at)) (truncate_at t.at t place s)
  cut_on t of has begins sent = by (cut_opens t.at) refl
    where
      by : (b : Bool) → cut_opens t.at ≡ b → OnCut fails place s listed d t (then_done b) (truncate_at t.at t place s)
      by true e = cut_opened fails place s listed d t (then_done true) opened_now t.at e
      by false e =
          busy_on (λ (x : TruncateView) (made : List Made). CutSent fails x.size x.at made) idle (λ i. false≢true (sym e ∙ begins i)) (truncate_at t.at t place s)
          (cut_sent fails place s listed d t t.at before e of.1 (λ x k. are_there s.meta s.targets x.layout h (has.opened x k)) sent)

  -- a step of any call
  pub step_on : (call : Running) → IsCallOf client call → Has client s.meta s.locks (hand_of call) → (idle ≡ true → is_opening call ≡ true) → CallSent fails call (sent_calls d) → OnStep fails (then_done (is_opening call)) (step_of call client asked place s)
  step_on running.Idle of has begins sent = once fails (then_done true) client place s asked
  step_on (running.Read call) of has begins sent = sends_none fails running.Read (λ x made. tt) (then_done (is_opening (running.Read call))) (read_step call place s)
  step_on (running.Write call) of has begins sent =
      of_client fails running.Write (λ (x : WriteView) (made : List Made). WriteSent fails x.at made) (λ x made so. so) (then_done (write_opens call.at)) (write_at call.at call place s) (write_on call of has begins sent)
  step_on (running.Truncate call) of has begins sent =
      of_client fails running.Truncate (λ (x : TruncateView) (made : List Made). CutSent fails x.size x.at made) (λ x made so. so) (then_done (cut_opens call.at)) (truncate_at call.at call place s) (cut_on call of has begins sent)
  step_on (running.Copy call) of has begins sent = sends_none fails running.Copy (λ x made. tt) (then_done (is_opening (running.Copy call))) (copy_step call place s)
  step_on (running.Verify call) of has begins sent = sends_none fails running.Verify (λ x made. tt) (then_done (is_opening (running.Verify call))) (verify_step call place s)
