-- What a step of any call does to its attempt and to what it knows, and what it leaves of the parts that count.
use Rattle.std.proofs.Common.{◌≡◌, ℕ, ◌+◌, ◌<◌, Bool, true, false, Option, Some, None, List, [], ◌∷◌, refl, sym, ap, ◌∙◌, arith}
use Rattle.std.specs.List.{AllByRecursion}
use Rattle.std.proofs.lemmas.Bool.{false≢true}
use Rattle.flr_base.specs.declared.reply.Reply.{Reply}
use Rattle.composite_layout.specs.Layouts.{Composite}
use Rattle.extent_lock.specs.Extents.{writer_but}
use Rattle.object_target.specs.declared.fail.Fail.{Fail}
use Rattle.script_values.specs.declared.command.Command.{Command}
use Rattle.script_values.specs.declared.command.Command.TheVariants as command
use Rattle.mirror_admin.specs.OneStep.{one_step}
use Rattle.mirror_admin.specs.Rotting.{rotted}
use Rattle.meta_server.specs.declared.answers.Opened.{Opened}
use Rattle.meta_server.specs.Files.{MetaView, with_eviction}
use Rattle.meta_server.specs.Outcomes.{Gives, Refuses, Waits}
use Rattle.meta_server.specs.Outcomes as meta
use Rattle.call_steps.specs.Servers.{AreThere, Servers}
use Rattle.call_steps.specs.Steps.{Outcome, Going, Fixed, Ended, Answered, Blocked, widen}
use Rattle.client_read.specs.Reads.{read_step}
use Rattle.client_read.specs.Views.{ReadView}
use Rattle.client_write.specs.declared.phase.CutAt.{CutAt}
use Rattle.client_write.specs.declared.phase.CutAt.TheVariants as cut
use Rattle.client_write.specs.declared.phase.WriteAt.{WriteAt}
use Rattle.client_write.specs.declared.phase.WriteAt.TheVariants as write
use Rattle.client_write.specs.Calls.{TruncateView, WriteView}
use Rattle.client_write.specs.Truncates.{truncate_at}
use Rattle.client_write.specs.CutFitting.{IsSoundCutAt}
use Rattle.client_write.specs.Fitting.{IsAsked, IsSoundAt}
use Rattle.client_write.specs.Writes.{range_of, write_at}
use Rattle.mirror_verify.specs.Verifies.{verify_step}
use Rattle.mirror_verify.specs.Views.{VerifyView}
use Rattle.resync_copy.specs.Calls.{CopyView}
use Rattle.resync_copy.specs.Steps.{copy_step}
use Rattle.flr_numbers.specs.Calls.{cut_hand, write_hand}
use Rattle.flr_numbers.specs.Copies.{copy_hand}
use Rattle.flr_numbers.specs.Hands.{AreMade, AreServers, Has}
use Rattle.flr_numbers.specs.Sentences.{IsCallOf, hand_of}
use Rattle.flr_numbers.proofs.CallFits.{are_there}
use Rattle.flr_steps.specs.declared.client.Running.{Running}
use Rattle.flr_steps.specs.declared.client.Running.TheVariants as running
use Rattle.flr_steps.specs.Commands.{answered_by, at_once, step_of}
use Rattle.flr_steps.specs.Traces.{Doing, cut_opens, done_with, is_opening, made_by, sent_calls, write_opens}
use Rattle.flr_claims.specs.Sending.{Attempt, Part, attempt_of, cut_attempt, part_object, write_attempt}
use Rattle.flr_sole.specs.Copies.{Says}
use Rattle.flr_sole.specs.Sentences.{HasSent, HasSentPieces, HasSentTails, IsPast, StandsAlone}
use Rattle.flr_sole.proofs.Calm.{IsSparing, LeavesCalm, once_leaves, read_leaves, sparing, verify_leaves}
use Rattle.flr_sole.proofs.CopySteps.{OnCopies, copy_on}
use Rattle.flr_sole.proofs.Ending.{counting}
use Rattle.flr_sole.proofs.Making.{made_none, opens_none}
use Rattle.flr_sole.proofs.Sending.{GivesUp, OnTurn, Turns, behind, cut_opens_well, cut_turns, write_opens_well, write_turns}

module _ (fails : List Fail) (place : ℕ) (s : Servers) (h : AreServers s.meta s.targets) (lands : ℕ → Part → Type 0) where
  abbrev counts : ℕ → Part → Type 0
  counts = counting s.meta s.targets lands

  -- a call that goes on: its attempt, what it has sent, and what it knows; and the parts that count stay
  abbrev pub OnStep : Option Attempt → Doing → (Servers → Doing) → Outcome Running → Type 0
  OnStep was d then (Going next after) = Turns fails s was d (attempt_of next) after (then after) × HasSent next (then after) × Says after.meta after.targets lands next × IsSparing counts s after
  OnStep was d then (Fixed next reply takes after) = Turns fails s was d (attempt_of next) after (then after) × HasSent next (then after) × Says after.meta after.targets lands next × IsSparing counts s after
  OnStep was d then (Ended after) = IsSparing counts s after
  OnStep was d then (Answered reply takes after) = IsSparing counts s after
  OnStep was d then (Blocked holder) = Unit {0}

  -- ---- a call without an attempt

  reads : (d : Doing) (then : Servers → Doing) (o : Outcome ReadView) → LeavesCalm s o → OnStep None d then (widen running.Read o)
  reads d then (Going next after) c = (GivesUp refl, tt, tt, sparing counts s after c)
  reads d then (Fixed next reply takes after) c = (GivesUp refl, tt, tt, sparing counts s after c)
  reads d then (Ended after) c = sparing counts s after c
  reads d then (Answered reply takes after) c = sparing counts s after c
  reads d then (Blocked holder) c = tt

  verifies : (d : Doing) (then : Servers → Doing) (o : Outcome VerifyView) → LeavesCalm s o → OnStep None d then (widen running.Verify o)
  verifies d then (Going next after) c = (GivesUp refl, tt, tt, sparing counts s after c)
  verifies d then (Fixed next reply takes after) c = (GivesUp refl, tt, tt, sparing counts s after c)
  verifies d then (Ended after) c = sparing counts s after c
  verifies d then (Answered reply takes after) c = sparing counts s after c
  verifies d then (Blocked holder) c = tt

  copies : (c : CopyView) (d : Doing) (then : Servers → Doing) (o : Outcome CopyView) → OnCopies lands s h.sound c o → OnStep None d then (widen running.Copy o)
  copies c d then (Going next after) k = (GivesUp refl, tt, k.0, k.1)
  copies c d then (Fixed next reply takes after) k = (GivesUp refl, tt, k.0, k.1)
  copies c d then (Ended after) k = k
  copies c d then (Answered reply takes after) k = k
  copies c d then (Blocked holder) k = tt

  answers : (d : Doing) (then : Servers → Doing) (o : meta.Outcome Reply) → LeavesCalm s (answered_by s o) → OnStep None d then (answered_by s o)
  answers d then (Gives answer after) c = sparing counts s (record s { meta = after }) c
  answers d then (Refuses answer) c = sparing counts s s c
  answers d then (Waits holder) c = tt

  once : (client : ℕ) (d : Doing) (then : Servers → Doing) (asked : Command) → LeavesCalm s (at_once client asked place s) → OnStep None d then (at_once client asked place s)
  once client d then (command.Read name offset len) c = tt
  once client d then (command.Write name offset bytes) c = tt
  once client d then (command.Truncate name size) c = tt
  once client d then (command.Lfs of) c = answers d then (one_step client of place s.meta) c
  once client d then (command.Evict other) c = sparing counts s (record s { meta = with_eviction other place s.meta }) c
  once client d then (command.Rot object offset byte) c = sparing counts s (record s { targets = rotted object offset byte s.targets }) c

  -- ---- a call with one

  writes : (was : Option Attempt) (d : Doing) (then : Servers → Doing) (o : Outcome WriteView) → OnTurn fails s was d (λ (x : WriteView). write_attempt x.at) (λ (x : WriteView). HasSentPieces x.at) then o → OnStep was d then (widen running.Write o)
  writes was d then (Going next after) t = (t.0, t.1, tt, sparing counts s after t.2)
  writes was d then (Fixed next reply takes after) t = (t.0, t.1, tt, sparing counts s after t.2)
  writes was d then (Ended after) t = sparing counts s after t
  writes was d then (Answered reply takes after) t = sparing counts s after t
  writes was d then (Blocked holder) t = tt

  cuts : (was : Option Attempt) (d : Doing) (then : Servers → Doing) (o : Outcome TruncateView) → OnTurn fails s was d (λ (x : TruncateView). cut_attempt x.size x.at) (λ (x : TruncateView). HasSentTails x.at) then o → OnStep was d then (widen running.Truncate o)
  cuts was d then (Going next after) t = (t.0, t.1, tt, sparing counts s after t.2)
  cuts was d then (Fixed next reply takes after) t = (t.0, t.1, tt, sparing counts s after t.2)
  cuts was d then (Ended after) t = sparing counts s after t
  cuts was d then (Answered reply takes after) t = sparing counts s after t
  cuts was d then (Blocked holder) t = tt

  -- ---- each step

  module _ (client : ℕ) (asked : Command) (d : Doing) (idle : Bool) (now : ℕ) (next : place ≡ now + 1) (past : IsPast now d) where
    abbrev pub then_done : Running → Servers → Doing
    then_done call after = done_with idle (is_opening call) place (made_by place s.targets after.targets) d

    -- a call that is under way isn't begun here
    busy_on : (b : Bool) → (b ≡ true → ⊥) → (was : Option Attempt) (o : Outcome Running) → OnStep was d (λ after. done_with false false place (made_by place s.targets after.targets) d) o → OnStep was d (λ after. done_with b false place (made_by place s.targets after.targets) d) o
    busy_on true not was o t = absurd (not refl)
    busy_on false not was o t = t

    opened_now : (m : MetaView) → sent_calls (done_with idle true place (made_by place s.targets s.targets) d) ≡ []
    opened_now m = opens_none idle now place (made_by place s.targets s.targets) d (omega (arith, next)) (made_none place s.targets) past

    before : d.opened < place
    before = let low = past.opened in omega (arith, low, next)

    write_on : (w : WriteView) → IsAsked (range_of w) → (at : WriteAt) → IsSoundAt at (range_of w) → ((x : Opened) → (write_hand at).opened ≡ Some x → AreThere s.targets x.layout.components) → (idle ≡ true → write_opens at ≡ true) → HasSentPieces at d
        → OnStep (write_attempt at) d (λ after. done_with idle (write_opens at) place (made_by place s.targets after.targets) d) (widen running.Write (write_at at w place s))
    write_on w asks write.Open sound there begins sent = writes None d (λ after. done_with idle true place (made_by place s.targets after.targets) d) (write_at write.Open w place s) (write_opens_well fails place s h.sound w asks d (λ after. done_with idle true place (made_by place s.targets after.targets) d) opened_now)
    write_on w asks (write.Lock x k) sound there begins sent = busy_on idle (λ e. false≢true (begins e)) (write_attempt (write.Lock x k)) (widen running.Write (write_at (write.Lock x k) w place s)) (writes (write_attempt (write.Lock x k)) d (behind fails place s h.sound d) (write_at (write.Lock x k) w place s) (write_turns fails place s h.sound w asks (write.Lock x k) d before (λ e. false≢true (ap write_opens e)) sound there sent))
    write_on w asks (write.Send x k) sound there begins sent = busy_on idle (λ e. false≢true (begins e)) (write_attempt (write.Send x k)) (widen running.Write (write_at (write.Send x k) w place s)) (writes (write_attempt (write.Send x k)) d (behind fails place s h.sound d) (write_at (write.Send x k) w place s) (write_turns fails place s h.sound w asks (write.Send x k) d before (λ e. false≢true (ap write_opens e)) sound there sent))
    write_on w asks (write.Commit x end came) sound there begins sent = busy_on idle (λ e. false≢true (begins e)) (write_attempt (write.Commit x end came)) (widen running.Write (write_at (write.Commit x end came) w place s)) (writes (write_attempt (write.Commit x end came)) d (behind fails place s h.sound d) (write_at (write.Commit x end came) w place s) (write_turns fails place s h.sound w asks (write.Commit x end came) d before (λ e. false≢true (ap write_opens e)) sound there sent))
    write_on w asks write.UnlockAgain sound there begins sent = busy_on idle (λ e. false≢true (begins e)) None (widen running.Write (write_at write.UnlockAgain w place s)) (writes None d (behind fails place s h.sound d) (write_at write.UnlockAgain w place s) (write_turns fails place s h.sound w asks write.UnlockAgain d before (λ e. false≢true (ap write_opens e)) sound there sent))
    write_on w asks write.Unlock sound there begins sent = busy_on idle (λ e. false≢true (begins e)) None (widen running.Write (write_at write.Unlock w place s)) (writes None d (behind fails place s h.sound d) (write_at write.Unlock w place s) (write_turns fails place s h.sound w asks write.Unlock d before (λ e. false≢true (ap write_opens e)) sound there sent))

    cut_on : (t : TruncateView) → (at : CutAt) → IsSoundCutAt at t.size → ((x : Opened) → (cut_hand at).opened ≡ Some x → AreThere s.targets x.layout.components) → (idle ≡ true → cut_opens at ≡ true) → HasSentTails at d
        → OnStep (cut_attempt t.size at) d (λ after. done_with idle (cut_opens at) place (made_by place s.targets after.targets) d) (widen running.Truncate (truncate_at at t place s))
    cut_on t cut.Open sound there begins sent = cuts None d (λ after. done_with idle true place (made_by place s.targets after.targets) d) (truncate_at cut.Open t place s) (cut_opens_well fails place s h.sound t d (λ after. done_with idle true place (made_by place s.targets after.targets) d) opened_now)
    cut_on t (cut.Lock x) sound there begins sent = busy_on idle (λ e. false≢true (begins e)) (cut_attempt t.size (cut.Lock x)) (widen running.Truncate (truncate_at (cut.Lock x) t place s)) (cuts (cut_attempt t.size (cut.Lock x)) d (behind fails place s h.sound d) (truncate_at (cut.Lock x) t place s) (cut_turns fails place s h.sound t (cut.Lock x) d before (λ e. false≢true (ap cut_opens e)) sound there sent))
    cut_on t (cut.Punch x k) sound there begins sent = busy_on idle (λ e. false≢true (begins e)) (cut_attempt t.size (cut.Punch x k)) (widen running.Truncate (truncate_at (cut.Punch x k) t place s)) (cuts (cut_attempt t.size (cut.Punch x k)) d (behind fails place s h.sound d) (truncate_at (cut.Punch x k) t place s) (cut_turns fails place s h.sound t (cut.Punch x k) d before (λ e. false≢true (ap cut_opens e)) sound there sent))
    cut_on t (cut.Commit x came) sound there begins sent = busy_on idle (λ e. false≢true (begins e)) (cut_attempt t.size (cut.Commit x came)) (widen running.Truncate (truncate_at (cut.Commit x came) t place s)) (cuts (cut_attempt t.size (cut.Commit x came)) d (behind fails place s h.sound d) (truncate_at (cut.Commit x came) t place s) (cut_turns fails place s h.sound t (cut.Commit x came) d before (λ e. false≢true (ap cut_opens e)) sound there sent))
    cut_on t cut.UnlockAgain sound there begins sent = busy_on idle (λ e. false≢true (begins e)) None (widen running.Truncate (truncate_at cut.UnlockAgain t place s)) (cuts None d (behind fails place s h.sound d) (truncate_at cut.UnlockAgain t place s) (cut_turns fails place s h.sound t cut.UnlockAgain d before (λ e. false≢true (ap cut_opens e)) sound there sent))
    cut_on t cut.Unlock sound there begins sent = busy_on idle (λ e. false≢true (begins e)) None (widen running.Truncate (truncate_at cut.Unlock t place s)) (cuts None d (behind fails place s h.sound d) (truncate_at cut.Unlock t place s) (cut_turns fails place s h.sound t cut.Unlock d before (λ e. false≢true (ap cut_opens e)) sound there sent))

    each_there : (ls : List Composite) → AllByRecursion (AreMade s.meta) ls → AllByRecursion (λ (l : Composite). AreThere s.targets l.components) ls
    each_there [] made = tt
    each_there (l ∷ ls) made = (are_there s.meta s.targets l h made.0, each_there ls made.1)

    pub step_on : (call : Running) → IsCallOf client call → Has client s.meta s.locks (hand_of call) → (idle ≡ true → is_opening call ≡ true) → HasSent call d → Says s.meta s.targets lands call
        → ((n : ℕ) (p : Part) → lands n p → StandsAlone s.meta.files n p) → (attempt_of call ≡ None → (n : ℕ) (p : Part) → lands n p → writer_but s.locks client (part_object p) ≡ None → ⊥)
        → OnStep (attempt_of call) d (then_done call) (step_of call client asked place s)
    step_on running.Idle of has begins sent says alone others = once client d (then_done running.Idle) asked (once_leaves s client place h.sound asked)
    step_on (running.Read call) of has begins sent says alone others = reads d (then_done (running.Read call)) (read_step call place s) (read_leaves s call call.at)
    step_on (running.Write call) of has begins sent says alone others = write_on call of.1 call.at of.2 (λ x e. are_there s.meta s.targets x.layout h (has.opened x e)) begins sent
    step_on (running.Truncate call) of has begins sent says alone others = cut_on call call.at of.1 (λ x e. are_there s.meta s.targets x.layout h (has.opened x e)) begins sent
    step_on (running.Copy call) of has begins sent says alone others =
        copies call d (then_done (running.Copy call)) (copy_step call place s)
        (copy_on lands s h.sound call alone (λ n p landed none. others refl n p landed (ap (λ (k : ℕ). writer_but s.locks k (part_object p)) (sym of.0) ∙ none)) of.1 of.2 call.at (each_there (copy_hand call.at).copied has.made) of.3 says)
    step_on (running.Verify call) of has begins sent says alone others = verifies d (then_done (running.Verify call)) (verify_step call place s) (verify_leaves s call call.at)
