-- What a step of any client sends, and what of it lands.
use Rattle.std.proofs.Common.{◌≡◌, ℕ, zero, suc, ◌+◌, ◌-◌, ◌<◌, Bool, true, false, Some, None, List, [], length, refl, sym, ap, subst, ◌∙◌, arith, get_or-set_other, get_or-set_same}
use Rattle.std.specs.Prelude.{slice_get}
use Rattle.std.proofs.Math.ListN.{set}
use Rattle.std.proofs.lemmas.Bool.{false≢true}
use Rattle.std.proofs.lemmas.Option.{slice_get_within}
use Rattle.flr_base.specs.declared.reply.Reply.{Reply}
use Rattle.object_target.specs.declared.fail.Fail.{Fail}
use Rattle.script_values.specs.declared.command.Command.{Command}
use Rattle.script_values.specs.declared.command.Command.TheVariants as command
use Rattle.mirror_admin.specs.OneStep.{one_step}
use Rattle.meta_server.specs.Files.{MetaView}
use Rattle.meta_server.specs.Outcomes.{Gives, Refuses, Waits}
use Rattle.meta_server.specs.Outcomes as meta
use Rattle.call_steps.specs.Servers.{AreThere, Servers}
use Rattle.call_steps.specs.Steps.{Outcome, Going, Fixed, Ended, Answered, Blocked, widen}
use Rattle.client_read.specs.Reads.{read_step}
use Rattle.client_write.specs.declared.phase.CutAt.{CutAt}
use Rattle.client_write.specs.declared.phase.CutAt.TheVariants as cut
use Rattle.client_write.specs.declared.phase.WriteAt.{WriteAt}
use Rattle.client_write.specs.declared.phase.WriteAt.TheVariants as write
use Rattle.client_write.specs.Calls.{TruncateView, WriteView}
use Rattle.client_write.specs.CutFitting.{IsSoundCutAt}
use Rattle.client_write.specs.Fitting.{IsAsked, IsSoundAt}
use Rattle.client_write.specs.Truncates.{truncate_at}
use Rattle.client_write.specs.Views.{CuttingView, WritingView}
use Rattle.client_write.specs.Writes.{range_of, write_at}
use Rattle.mirror_verify.specs.Verifies.{verify_step}
use Rattle.resync_copy.specs.Steps.{copy_step}
use Rattle.flr_numbers.specs.Calls.{cut_hand, write_hand}
use Rattle.flr_numbers.specs.Hands.{AreServers, Has}
use Rattle.flr_numbers.specs.Sentences.{Holds, IsCallOf, hand_of}
use Rattle.flr_numbers.proofs.CallFits.{are_there}
use Rattle.flr_steps.specs.declared.client.Client.{Client}
use Rattle.flr_steps.specs.declared.client.Running.{Running}
use Rattle.flr_steps.specs.declared.client.Running.TheVariants as running
use Rattle.flr_steps.specs.Clients.{first_now}
use Rattle.flr_steps.specs.Commands.{answered_by, at_once, step_of}
use Rattle.flr_steps.specs.Runs.{IsBeside, doing_after}
use Rattle.flr_steps.specs.States.{State, client_at, place_in}
use Rattle.flr_steps.specs.Steps.{LeavesState, StepIs}
use Rattle.flr_steps.specs.Traces.{Doing, Trace, cut_opens, doing_of, done_with, is_idle, is_opening, made_by, nothing_done, sent_calls, traced, traced_by, with_doing, write_opens}
use Rattle.flr_steps.proofs.TraceLaws.{steps_are_traced}
use Rattle.flr_claims.specs.Sending.{Attempt, attempt_of}
use Rattle.flr_work.specs.Paying.{AreListed}
use Rattle.flr_sole.specs.Runs.{Sole}
use Rattle.flr_sole.specs.Sentences.{HasSent, HasSentPieces, HasSentTails, IsPast}
use Rattle.flr_sole.proofs.Keeping.{now_opens, now_sent}
use Rattle.flr_sole.proofs.Making.{made_none, opens_none}
use Rattle.flr_bytes.specs.Sentences.{new_byte}
use Rattle.flr_honest.proofs.Landed.NewBytes.{KeepsNew, keeps_new}
use Rattle.flr_honest.proofs.Landed.Parting.{IsQuiet, cut_next, none_next, write_next}
use Rattle.flr_honest.proofs.Landed.Landing.{Rests, Turn}
use Rattle.flr_honest.proofs.Landed.Sending.{OnTurn, cut_opened, cut_turn, plain, widened, write_opened, write_turn}
use Rattle.flr_honest.proofs.Landed.Sending as sending
use Rattle.flr_honest.proofs.Landed.Steps.{has_its_hand, is_its_call, its_call}
use Rattle.flr_honest.proofs.Landed.Lists.{set_other, set_there}

module _ (fails : List Fail) (place : ℕ) (s : Servers) (listed : AreListed fails s.targets) (h : AreServers s.meta s.targets) (client : ℕ) (asked : Command) (d : Doing) (idle : Bool) (now : ℕ) (next : place ≡ now + 1) (past : IsPast now d) where
  abbrev pub OnStep : Running → (Servers → Doing) → Outcome Running → Type 0
  OnStep call then o = OnTurn fails s call d attempt_of then o

  abbrev pub then_done : Running → Servers → Doing
  then_done call after = done_with idle (is_opening call) place (made_by place s.targets after.targets) d

  -- ---- commands of one step

  quiet_idle : (after : Servers) → IsQuiet s after running.Idle
  quiet_idle after = none_next s after running.Idle refl

  answers : (then : Servers → Doing) (o : meta.Outcome Reply) → OnStep running.Idle then (answered_by s o)
  answers then (Gives reply after) = Rests refl (quiet_idle _)
  answers then (Refuses refusal) = Rests refl (quiet_idle _)
  answers then (Waits holder) = tt

  once : (then : Servers → Doing) (of : Command) → OnStep running.Idle then (at_once client of place s)
  once then (command.Lfs of) = answers then (one_step client of place s.meta)
  once then (command.Evict other) = Rests refl (quiet_idle _)
  once then (command.Rot object offset byte) = Rests refl (quiet_idle _)
  once then (command.Read name offset len) = tt
  once then (command.Write name offset bytes) = tt
  once then (command.Truncate name size) = tt

  -- ---- writing calls

  -- a call that is under way isn't begun here
  busy_on : (b : Bool) → (b ≡ true → ⊥) → (call : Running) (o : Outcome Running) → OnStep call (λ after. done_with false false place (made_by place s.targets after.targets) d) o → OnStep call (λ after. done_with b false place (made_by place s.targets after.targets) d) o
  busy_on true not call o t = absurd (not refl)
  busy_on false not call o t = t

  opened_now : (m : MetaView) → sent_calls (done_with idle true place (made_by place s.targets s.targets) d) ≡ []
  opened_now m = opens_none idle now place (made_by place s.targets s.targets) d (omega (arith, next)) (made_none place s.targets) past

  before : d.opened < place
  before = let low = past.opened in omega (arith, low, next)

  write_busy : (w : WriteView) → IsAsked (range_of w) → (at : WriteAt) → w.at ≡ at → write_opens at ≡ false → IsSoundAt at (range_of w) → ((x : WritingView) (k : ℕ) → at ≡ write.Send x k → (length (sent_calls d) ≡ k) × AreThere s.targets x.opened.layout.components)
      → (idle ≡ true → write_opens at ≡ true) → OnStep (running.Write w) (λ after. done_with idle false place (made_by place s.targets after.targets) d) (widen running.Write (write_at at w place s))
  write_busy w asks at here opens sound sent begins =
      busy_on idle (λ e. false≢true (sym opens ∙ begins e)) (running.Write w) (widen running.Write (write_at at w place s))
      (widened running.Write fails s (running.Write w) d (sending.behind fails place s listed d) (write_at at w place s) (write_turn fails place s listed d w asks at here (λ e. false≢true (sym opens ∙ ap write_opens e)) before sound sent))

  write_on : (w : WriteView) → IsAsked (range_of w) → (at : WriteAt) → w.at ≡ at → IsSoundAt at (range_of w) → ((x : WritingView) (k : ℕ) → at ≡ write.Send x k → (length (sent_calls d) ≡ k) × AreThere s.targets x.opened.layout.components)
      → (idle ≡ true → write_opens at ≡ true) → OnStep (running.Write w) (λ after. done_with idle (write_opens at) place (made_by place s.targets after.targets) d) (widen running.Write (write_at at w place s))
  write_on w asks write.Open here sound sent begins =
      widened running.Write fails s (running.Write w) d (λ after. done_with idle true place (made_by place s.targets after.targets) d) (write_at write.Open w place s) (write_opened fails place s listed d w asks (ap write_next here) (λ after. done_with idle true place (made_by place s.targets after.targets) d) opened_now)
  write_on w asks (write.Lock x k) here sound sent begins = write_busy w asks (write.Lock x k) here refl sound sent begins
  write_on w asks (write.Send x k) here sound sent begins = write_busy w asks (write.Send x k) here refl sound sent begins
  write_on w asks (write.Commit x end came) here sound sent begins = write_busy w asks (write.Commit x end came) here refl sound sent begins
  write_on w asks write.UnlockAgain here sound sent begins = write_busy w asks write.UnlockAgain here refl sound sent begins
  write_on w asks write.Unlock here sound sent begins = write_busy w asks write.Unlock here refl sound sent begins

  cut_busy : (t : TruncateView) → (at : CutAt) → t.at ≡ at → cut_opens at ≡ false → IsSoundCutAt at t.size → ((x : CuttingView) (k : ℕ) → at ≡ cut.Punch x k → (length (sent_calls d) ≡ k) × AreThere s.targets x.opened.layout.components)
      → (idle ≡ true → cut_opens at ≡ true) → OnStep (running.Truncate t) (λ after. done_with idle false place (made_by place s.targets after.targets) d) (widen running.Truncate (truncate_at at t place s))
  cut_busy t at here opens sound sent begins =
      busy_on idle (λ e. false≢true (sym opens ∙ begins e)) (running.Truncate t) (widen running.Truncate (truncate_at at t place s))
      (widened running.Truncate fails s (running.Truncate t) d (sending.behind fails place s listed d) (truncate_at at t place s) (cut_turn fails place s listed d t at here (λ e. false≢true (sym opens ∙ ap cut_opens e)) before sound sent))

  cut_on : (t : TruncateView) → (at : CutAt) → t.at ≡ at → IsSoundCutAt at t.size → ((x : CuttingView) (k : ℕ) → at ≡ cut.Punch x k → (length (sent_calls d) ≡ k) × AreThere s.targets x.opened.layout.components)
      → (idle ≡ true → cut_opens at ≡ true) → OnStep (running.Truncate t) (λ after. done_with idle (cut_opens at) place (made_by place s.targets after.targets) d) (widen running.Truncate (truncate_at at t place s))
  cut_on t cut.Open here sound sent begins =
      widened running.Truncate fails s (running.Truncate t) d (λ after. done_with idle true place (made_by place s.targets after.targets) d) (truncate_at cut.Open t place s) (cut_opened fails place s listed d t (ap (cut_next t.size) here) (λ after. done_with idle true place (made_by place s.targets after.targets) d) opened_now)
  cut_on t (cut.Lock x) here sound sent begins = cut_busy t (cut.Lock x) here refl sound sent begins
  cut_on t (cut.Punch x k) here sound sent begins = cut_busy t (cut.Punch x k) here refl sound sent begins
  cut_on t (cut.Commit x came) here sound sent begins = cut_busy t (cut.Commit x came) here refl sound sent begins
  cut_on t cut.UnlockAgain here sound sent begins = cut_busy t cut.UnlockAgain here refl sound sent begins
  cut_on t cut.Unlock here sound sent begins = cut_busy t cut.Unlock here refl sound sent begins

  -- ---- each step

  -- each call
  pub step_on : (call : Running) → IsCallOf client call → Has client s.meta s.locks (hand_of call) → (idle ≡ true → is_opening call ≡ true) → HasSent call d → OnStep call (then_done call) (step_of call client asked place s)
  step_on running.Idle of has begins sent = once (then_done running.Idle) asked
  step_on (running.Read call) of has begins sent = plain running.Read (λ x. refl) fails s (running.Read call) d (then_done (running.Read call)) (read_step call place s) (λ after. none_next s after (running.Read call) refl)
  step_on (running.Write call) of has begins sent =
      write_on call of.1 call.at refl of.2
      (λ x k e. (subst (λ (a : WriteAt). HasSentPieces a d) e sent, are_there s.meta s.targets x.opened.layout h (has.opened x.opened (ap (λ a. (write_hand a).opened) e)))) begins
  step_on (running.Truncate call) of has begins sent =
      cut_on call call.at refl of.1
      (λ x k e. (subst (λ (a : CutAt). HasSentTails a d) e sent, are_there s.meta s.targets x.opened.layout h (has.opened x.opened (ap (λ a. (cut_hand a).opened) e)))) begins
  step_on (running.Copy call) of has begins sent = plain running.Copy (λ x. refl) fails s (running.Copy call) d (then_done (running.Copy call)) (copy_step call place s) (λ after. none_next s after (running.Copy call) refl)
  step_on (running.Verify call) of has begins sent = plain running.Verify (λ x. refl) fails s (running.Verify call) d (then_done (running.Verify call)) (verify_step call place s) (λ after. none_next s after (running.Verify call) refl)

-- ---- a step of the state

client_there : (clients : List Client) (c : ℕ) (old new : Client) → client_at clients c ≡ Some old → client_at (set clients (c - 1) new) c ≡ Some new
client_there clients zero old new e = absurd (cc)
client_there clients (suc c) old new e = let same : suc c - 1 ≡ c = omega arith in ap (λ (i : ℕ). slice_get (set clients i new) c) same ∙ set_there clients c old new e

client_other : (clients : List Client) (c k : ℕ) (new : Client) → 0 < c → (k ≡ c → ⊥) → client_at (set clients (c - 1) new) k ≡ client_at clients k
client_other clients c zero new some apart = refl
client_other clients c (suc k) new some apart = set_other clients (c - 1) k new (λ same. apart (omega (arith, same, some)))

there : (clients : List Client) (c : ℕ) (client : Client) → client_at clients c ≡ Some client → (0 < c) × (c - 1 < length clients)
there clients zero client e = absurd (cc)
there clients (suc c) client e = let within = slice_get_within clients c client e in (omega arith, omega (arith, within))

-- what a step does to the attempt of its client, and that the others stay
pub record TurnIs (s t : State) (old new : Trace) (c : ℕ) (call : Running) : Type 0 where
  pub client : Client
  pub here : client_at t.clients c ≡ Some client
  pub turn : Turn s.script.fails s.shared t.shared call (doing_of old c) (attempt_of client.call) (doing_of new c)
  pub bytes : (a : Attempt) → attempt_of client.call ≡ Some a → (x : ℕ) → new_byte client.call x ≡ new_byte call x
  pub script : t.script.fails ≡ s.script.fails
  pub others : (k : ℕ) → (k ≡ c → ⊥) → client_at t.clients k ≡ client_at s.clients k
  pub done : (k : ℕ) (client : Client) → client_at s.clients k ≡ Some client → (k ≡ c → ⊥) → doing_of new k ≡ doing_of old k

module _ (s t : State) (old : Trace) (c : ℕ) (h : Holds s) (listed : AreListed s.script.fails s.shared.targets) (beside : IsBeside s old) (sole : Sole s old) (step : StepIs s c t) where
  abbrev call : Running
  call = its_call s t c h step

  abbrev then : Servers → Doing
  then after = done_with (is_idle step.client.call) (is_opening call) (place_in s) (made_by (place_in s) s.shared.targets after.targets) (doing_of old c)

  on_step : OnTurn s.script.fails s.shared call (doing_of old c) attempt_of then step.came
  on_step =
      subst (λ (o : Outcome Running). OnTurn s.script.fails s.shared call (doing_of old c) attempt_of then o) step.made
      (step_on s.script.fails (place_in s) s.shared listed h.servers c step.asked (doing_of old c) (is_idle step.client.call) (length s.schedule) refl (sole.past c step.client step.here) call (is_its_call s t c h step) (has_its_hand s t c h step) (now_opens c step.asked step.client.call)
      (now_sent c step.asked step.client.call (doing_of old c) (sole.sent c step.client step.here)))

  within : c - 1 < length old.running
  within = let same = beside.clients in let less = (there s.clients c step.client step.here).1 in omega (arith, same, less)

  mine : (d : Doing) → doing_of (with_doing old c d) c ≡ d
  mine d = get_or-set_same old.running (c - 1) d nothing_done within

  theirs : (d : Doing) (k : ℕ) (other : Client) → client_at s.clients k ≡ Some other → (k ≡ c → ⊥) → doing_of (with_doing old c d) k ≡ doing_of old k
  theirs d k other e apart =
      let one = (there s.clients k other e).0 in
      let two = (there s.clients c step.client step.here).0 in
      get_or-set_other old.running (c - 1) (k - 1) d nothing_done (λ same. apart (omega (arith, same, one, two)))

  some : 0 < c
  some = (there s.clients c step.client step.here).0

  came_turn : (came : Outcome Running) → OnTurn s.script.fails s.shared call (doing_of old c) attempt_of then came → KeepsNew call came → LeavesState s c step.client (first_now step.client.call (place_in s) step.client.first) came t → TurnIs s t old (traced_by old c call (doing_after s t old c step.client step.asked) came) c call
  came_turn (Going next after) on keeps left = subst (λ (x : State). TurnIs s x old (traced_by old c call (doing_after s x old c step.client step.asked) (Going next after)) c call) (sym left) (record {
    client = _;
    here = client_there s.clients c step.client _ step.here;
    turn = subst (λ (d : Doing). Turn s.script.fails s.shared after call (doing_of old c) (attempt_of next) d) (sym (mine (then after))) on;
    bytes = λ a has x. keeps x;
    script = refl;
    others = λ k apart. client_other s.clients c k _ some apart;
    done = λ k other e apart. theirs (then after) k other e apart;
  })
  came_turn (Fixed next reply takes after) on keeps left = subst (λ (x : State). TurnIs s x old (traced_by old c call (doing_after s x old c step.client step.asked) (Fixed next reply takes after)) c call) (sym left) (record {
    client = _;
    here = client_there s.clients c step.client _ step.here;
    turn = subst (λ (d : Doing). Turn s.script.fails s.shared after call (doing_of old c) (attempt_of next) d) (sym (mine (then after))) on;
    bytes = λ a has x. keeps x;
    script = refl;
    others = λ k apart. client_other s.clients c k _ some apart;
    done = λ k other e apart. theirs (then after) k other e apart;
  })
  came_turn (Ended after) on keeps left = subst (λ (x : State). TurnIs s x old (traced_by old c call (doing_after s x old c step.client step.asked) (Ended after)) c call) (sym left) (record {
    client = _;
    here = client_there s.clients c step.client _ step.here;
    turn = subst (λ (d : Doing). Turn s.script.fails s.shared after call (doing_of old c) None d) (sym (mine (then after))) on;
    bytes = λ a has x. absurd (cc);
    script = refl;
    others = λ k apart. client_other s.clients c k _ some apart;
    done = λ k other e apart. theirs (then after) k other e apart;
  })
  came_turn (Answered reply takes after) on keeps left = subst (λ (x : State). TurnIs s x old (traced_by old c call (doing_after s x old c step.client step.asked) (Answered reply takes after)) c call) (sym left) (record {
    client = _;
    here = client_there s.clients c step.client _ step.here;
    turn = subst (λ (d : Doing). Turn s.script.fails s.shared after call (doing_of old c) None d) (sym (mine (then after))) on;
    bytes = λ a has x. absurd (cc);
    script = refl;
    others = λ k apart. client_other s.clients c k _ some apart;
    done = λ k other e apart. theirs (then after) k other e apart;
  })
  came_turn (Blocked holder) on keeps left = absurd left

  -- the step of the state
  pub step_turns : TurnIs s t old (traced s t old c) c call
  step_turns = subst (λ (x : Trace). TurnIs s t old x c call) (sym (steps_are_traced s t old c step)) (came_turn step.came on_step (subst (KeepsNew call) step.made (keeps_new c s.shared call step.asked (place_in s))) step.left)
