-- Each step of a write of a run leaves what its stage says.
use Rattle.std.proofs.Common.{◌≡◌, ℕ, ◌<◌, Bool, false, Some, List, ◌++◌, nat_lt, refl, sym, ap, subst, ◌∙◌, arith}
use Rattle.flr_base.specs.Limits.{most_bytes}
use Rattle.meta_server.specs.declared.answers.Opened.{Opened}
use Rattle.meta_server.specs.Closing.{holds}
use Rattle.meta_server.specs.Files.{MetaView}
use Rattle.meta_server.specs.Opening.{write_opens}
use Rattle.meta_server.specs.Outcomes.{Gives, Refuses, Waits}
use Rattle.meta_server.specs.Outcomes as meta
use Rattle.call_steps.specs.Runs.{CallStep, Leaves}
use Rattle.call_steps.specs.Servers.{Servers}
use Rattle.call_steps.specs.Steps.{Outcome, Going, Fixed, Ended, Answered, Blocked, widen}
use Rattle.client_write.specs.declared.phase.WriteAt.{WriteAt}
use Rattle.client_write.specs.declared.phase.WriteAt.TheVariants as write
use Rattle.client_write.specs.Calls.{WriteView}
use Rattle.client_write.specs.Writes.{opens, range_of, write_at}
use Rattle.script_values.specs.declared.command.Command.{Command}
use Rattle.script_values.specs.declared.command.Command.TheVariants as command
use Rattle.flr_steps.specs.declared.client.Running.{Running}
use Rattle.flr_steps.specs.declared.client.Running.TheVariants as running
use Rattle.flr_steps.specs.States.{IsRun, State}
use Rattle.flr_steps.specs.Traces.{Doing, Made, is_opening, made_by}
use Rattle.flr_steps.specs.Traces as traces
use Rattle.flr_asked.specs.CallRuns.{place_if}
use Rattle.flr_numbers.specs.Calls.{write_hand}
use Rattle.flr_numbers.specs.Sentences.{IsCallOf, hand_of}
use Rattle.flr_pieces.specs.Sentences.{IsLost}
use Rattle.flr_sole.proofs.Making.{past_later}
use Rattle.flr_honest.specs.WriteCauses.Stages.{HasDone, IsOpenedAt, write_stage}
use Rattle.flr_honest.proofs.WriteCauses.Naming.{IsThat, OpensThat, opens_that}
use Rattle.flr_honest.proofs.WriteCauses.Standing.{is_lost, opened_now, own_call, taken_since, targets_listed, targets_there}
use Rattle.flr_honest.proofs.WriteCauses.Walking.{Comes, EachGoes, OnNext, done_then}
use Rattle.flr_honest.proofs.WriteCauses.Writing.{Finds, IsTaken, OnWrite, done, write_does, write_so}

module _ (s : State) (run : IsRun s) (c first : ℕ) (name : List ℕ) (offset : ℕ) (bytes : List ℕ) where
  abbrev asked : Command
  asked = command.Write name offset bytes

  abbrev pub so : WriteAt → Running
  so a = running.Write (write_so s.script s.schedule c first name offset bytes a)

  module _ (d : Doing) (a : WriteAt) (x : CallStep Running) (comes : Comes s.script s.schedule c first asked so write_stage d a x) where
    same : x.call ≡ so a
    same = comes.step.same

    some : 0 < x.place
    some = let later = comes.step.later in omega (arith, later)

    came : x.came ≡ widen running.Write (write_at a (write_so s.script s.schedule c first name offset bytes a) x.place x.before)
    came = comes.step.came

    opens_now : a ≡ write.Open → (o : Opened) (after : MetaView)
        → write_opens c name (range_of (write_so s.script s.schedule c first name offset bytes a)) x.place x.before.meta ≡ Gives o after
        → IsOpenedAt s.script s.schedule c first asked x.place o
    opens_now is o after e =
        let w : WriteView = write_so s.script s.schedule c first name offset bytes write.Open in
        let goes : x.came ≡ widen running.Write (opens w x.before (Gives o after)) =
        came ∙ ap (λ (b : WriteAt). widen running.Write (write_at b (write_so s.script s.schedule c first name offset bytes b) x.place x.before)) is ∙ ap (λ (k : meta.Outcome Opened). widen running.Write (opens w x.before k)) e in
        let left : x.after ≡ record x.before { meta = after } = subst (λ (k : Outcome Running). Leaves k x.after) goes comes.step.left in
        let that : IsThat name o after = subst (OpensThat name) e (opens_that c (range_of w) x.place x.before.meta name (nat_lt most_bytes (range_of w).end)) in
        opened_now s run c first asked x comes.stands some name o after refl (ap is_opening same ∙ ap traces.write_opens is) comes.began left that

    taken : HasDone s.script s.schedule c first asked d (write_stage a) → (o : Opened) → (write_hand a).opened ≡ Some o
        → holds o.file o.cookie x.before.meta ≡ false → IsTaken s.script s.schedule c first name offset bytes d.opened x.place x.before.meta
    taken has o e gone = taken_since s run c first asked x comes.stands some d.opened o (opened_at a has o e) (let low = comes.past.opened in let later = comes.step.later in omega (arith, low, later)) (ap (λ (r : Running). (hand_of r).opened) same ∙ e) gone
      where
        same_opened : (x y : Opened) → Some x ≡ Some y → x ≡ y
        same_opened x y e = cc e

        opened_at : (b : WriteAt) → HasDone s.script s.schedule c first asked d (write_stage b) → (o : Opened) → (write_hand b).opened ≡ Some o
            → IsOpenedAt s.script s.schedule c first asked d.opened o
        opened_at write.Open has o e = absurd (cc e)
        opened_at (write.Lock x next) has o e = subst (IsOpenedAt s.script s.schedule c first asked d.opened) (same_opened x.opened o e) has.0
        opened_at (write.Send x next) has o e = subst (IsOpenedAt s.script s.schedule c first asked d.opened) (same_opened x.opened o e) has.0
        opened_at (write.Commit x end came) has o e = subst (IsOpenedAt s.script s.schedule c first asked d.opened) (same_opened x.opened o e) has.0
        opened_at write.UnlockAgain has o e = absurd (cc e)
        opened_at write.Unlock has o e = absurd (cc e)

    finds : Finds s.script s.schedule c first name offset bytes x.place x.before d a
    finds =
        let low = comes.past.opened in
        let later = comes.step.later in
        let own : IsCallOf c (so a) = subst (IsCallOf c) same (own_call s run c first asked x comes.stands some) in
        record {
          behind = omega (arith, low, later);
          past = (past_later comes.now x.place d (omega (arith, later)) comes.past).made;
          listed = targets_listed s run c first asked x comes.stands some;
          within = own.1;
          sound = own.2;
          there = λ o e. targets_there s run c first asked x comes.stands some o (ap (λ (r : Running). (hand_of r).opened) same ∙ e);
          lost = subst (IsLost x.before) same (is_lost s run c first asked x comes.stands some);
          taken = taken comes.has;
          opens = opens_now;
        }

    -- what the step leaves is what the call has done
    same_done : (after : Servers) → x.after ≡ after → done s.script s.schedule c first name offset bytes x.place x.before d (traces.write_opens a) after ≡ done_then d x
    same_done after left =
        ap (λ (b : Bool). record { opened = place_if b x.place d.opened; made = d.made ++ made_by x.place x.before.targets after.targets }) (sym (ap is_opening same))
        ∙ ap (λ (t : Servers). record { opened = place_if (is_opening x.call) x.place d.opened; made = d.made ++ made_by x.place x.before.targets t.targets }) (sym left)

    goes_by : (o : Outcome WriteView) → OnWrite s.script s.schedule c first name offset bytes x.place x.before d (traces.write_opens a) o
        → Leaves (widen running.Write o) x.after → OnNext s.script s.schedule c first asked so write_stage (done_then d x) (widen running.Write o)
    goes_by (Going next after) on left = (next.at, ap running.Write on.0, subst (λ (e : Doing). HasDone s.script s.schedule c first asked e (write_stage next.at)) (same_done after left) on.1)
    goes_by (Fixed next reply takes after) on left = (next.at, ap running.Write on.0, subst (λ (e : Doing). HasDone s.script s.schedule c first asked e (write_stage next.at)) (same_done after left) on.1)
    goes_by (Ended after) on left = tt
    goes_by (Answered reply takes after) on left = tt
    goes_by (Blocked holder) on left = tt

    goes : OnNext s.script s.schedule c first asked so write_stage (done_then d x) x.came
    goes =
        let o : Outcome WriteView = write_at a (write_so s.script s.schedule c first name offset bytes a) x.place x.before in
        subst (OnNext s.script s.schedule c first asked so write_stage (done_then d x)) (sym came)
        (goes_by o (write_does s.script s.schedule c first name offset bytes x.place x.before d a finds comes.has) (subst (λ (k : Outcome Running). Leaves k x.after) came comes.step.left))

  pub each_goes : EachGoes s.script s.schedule c first asked so write_stage
  each_goes d a x comes = goes d a x comes
