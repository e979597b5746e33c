-- Every run: its calls are its entries, and without rot they are linear.
use Rattle.std.proofs.Common.{◌≡◌, ℕ, ◌+◌, ◌-◌, false, List, [], ◌∷◌, ◌++◌, length, Some, refl, sym, ap, ◌∙◌, subst, arith}
use Rattle.std.specs.List.{AllByRecursion}
use Rattle.flr_base.specs.declared.reply.Entry.{Entry}
use Rattle.flr_base.specs.declared.reply.Reply.{Reply}
use Rattle.flr_base.specs.declared.reply.Take.{Take}
use Rattle.script_values.specs.declared.command.Command.{Command}
use Rattle.script_values.specs.Scripts.{IsScript, ScriptView, command_after}
use Rattle.call_steps.specs.Steps.{Outcome, Going, Fixed, Ended, Answered, Blocked}
use Rattle.flr_steps.specs.declared.client.Client.{Client}
use Rattle.flr_steps.specs.declared.client.Running.{Running}
use Rattle.flr_steps.specs.Clients.{call_now, entry, first_now}
use Rattle.flr_steps.specs.Reports.{command_of}
use Rattle.flr_steps.specs.Runs.{doing_after}
use Rattle.flr_steps.specs.States.{IsRun, State, Stepped, after, next, place_in, start}
use Rattle.flr_steps.specs.Steps.{LeavesState, StepIs}
use Rattle.flr_steps.specs.Traces.{Doing, Trace, trace_after, traced, traced_by}
use Rattle.flr_steps.proofs.Inversion.{step_is}
use Rattle.flr_steps.proofs.Runs.{after_more}
use Rattle.flr_steps.proofs.StepLaws.{each_step_leaves}
use Rattle.flr_steps.proofs.TraceLaws.{steps_are_traced, trace_goes_on, traces_stand_beside}
use Rattle.plain_files.specs.Histories.{ArePointsAfter, FollowInOrder, IsLegal, IsLinear, IsWithinInterval, entries_of}
use Rattle.plain_files.specs.Histories as histories
use Rattle.flr_claims.specs.Causes.{has_rot}
use Rattle.flr_claims.specs.Claims.{AreInOrder, CallsAreEntries}
use Rattle.flr_claims.specs.Runs.{calls_of, store_of}
use Rattle.flr_numbers.specs.Laws.{LeaveRoom}
use Rattle.flr_numbers.specs.Sentences.{HasRoom, Holds}
use Rattle.flr_locks.proofs.Runs.{keep_always}
use Rattle.flr_runs.proofs.Runs as runs
use Rattle.flr_past.proofs.Runs.{runs_are_in_order}
use Rattle.flr_bytes.specs.Runs.{IsStep}
use Rattle.flr_honest.proofs.Commands.{no_rot}
use Rattle.flr_honest.proofs.Grounds.{runs_ground}
use Rattle.flr_honest.proofs.Runs.{runs_honest}
use Rattle.flr_honest.specs.Legal.Laws.{RunsAreLegal, RunsAreLinear, RunsJudgeAll}
use Rattle.flr_honest.specs.Legal.Sentences.{IsAllowed}
use Rattle.flr_honest.proofs.Legal.Histories.{HasIts, all_answer, all_unmapped, entries_are, its_closed, its_pushed, legal_closed, legal_pushed}
use Rattle.flr_honest.proofs.Legal.Keeping.{runs_know}
use Rattle.flr_honest.proofs.Legal.Steps.{steps_answer}

-- ---- one step

-- the new entry answers the command that was asked
new_command : (script : ScriptView) (c : ℕ) (client : Client) (asked : Command) (first at last : ℕ) (answer : Reply) (takes : List Take) → command_after script c client.done ≡ Some asked → command_of script (entry c client first at last answer takes) ≡ Some asked
new_command script c client asked first at last answer takes e = ap (command_after script c) (let z : client.done + 1 - 1 ≡ client.done = omega arith in z) ∙ e

module _ (s t : State) (c : ℕ) (client : Client) (asked : Command) (first : ℕ) (commanded : command_after s.script c client.done ≡ Some asked) where
  -- each entry answers a command
  its_left : (came : Outcome Running) → LeavesState s c client first came t → AllByRecursion (HasIts s.script) s.entries → AllByRecursion (HasIts t.script) t.entries
  its_left (Going next after) left all = subst (λ (x : State). AllByRecursion (HasIts x.script) x.entries) (sym left) all
  its_left (Fixed next answer takes after) left all =
      subst (λ (x : State). AllByRecursion (HasIts x.script) x.entries) (sym left)
      (its_pushed s.script (entry c client first (place_in s) 0 answer takes) s.entries all (asked, new_command s.script c client asked first (place_in s) 0 answer takes commanded))
  its_left (Ended after) left all = subst (λ (x : State). AllByRecursion (HasIts x.script) x.entries) (sym left) (its_closed s.script c (place_in s) s.entries all)
  its_left (Answered answer takes after) left all =
      subst (λ (x : State). AllByRecursion (HasIts x.script) x.entries) (sym left)
      (its_pushed s.script (entry c client first (place_in s) (place_in s) answer takes) s.entries all (asked, new_command s.script c client asked first (place_in s) (place_in s) answer takes commanded))
  its_left (Blocked holder) left all = absurd left

  module _ (old : Trace) (call : Running) (d : Doing) (beside : length old.answered ≡ length s.entries) where
    -- the calls with one more, whose answer is fixed here
    pushed : (last : ℕ) (answer : Reply) (takes : List Take) → IsLegal [] (calls_of s old) → IsAllowed asked (store_of s old) (Answered answer takes s.shared)
        → IsLegal [] (calls_of (record s { entries = s.entries ++ entry c client first (place_in s) last answer takes ∷ [] }) (record { running = old.running; answered = old.answered ++ record { call = call; doing = d } ∷ [] }))
    pushed last answer takes legal allowed =
        legal_pushed s.script (entry c client first (place_in s) last answer takes) (record { call = call; doing = d }) asked s.entries old.answered beside
        (new_command s.script c client asked first (place_in s) last answer takes commanded) allowed legal

    legal_left : (came : Outcome Running) → LeavesState s c client first came t → IsAllowed asked (store_of s old) came → IsLegal [] (calls_of s old) → IsLegal [] (calls_of t (traced_by old c call d came))
    legal_left (Going next after) left allowed legal = subst (λ (x : State). IsLegal [] (calls_of x (traced_by old c call d (Going next after)))) (sym left) legal
    legal_left (Fixed next answer takes after) left allowed legal = subst (λ (x : State). IsLegal [] (calls_of x (traced_by old c call d (Fixed next answer takes after)))) (sym left) (pushed 0 answer takes legal allowed)
    legal_left (Ended after) left allowed legal = subst (λ (x : State). IsLegal [] (calls_of x (traced_by old c call d (Ended after)))) (sym left) (legal_closed s.script c (place_in s) s.entries old.answered [] legal)
    legal_left (Answered answer takes after) left allowed legal = subst (λ (x : State). IsLegal [] (calls_of x (traced_by old c call d (Answered answer takes after)))) (sym left) (pushed (place_in s) answer takes legal allowed)
    legal_left (Blocked holder) left allowed legal = absurd left

-- ---- runs

-- a state that its schedule leads to, whose entries are calls, which are legal where no byte may rot
record Judged (s : State) : Type 0 where
  pub run : after (start s.script) s.schedule ≡ Some s
  pub each : AllByRecursion (HasIts s.script) s.entries
  pub legal : has_rot s.script ≡ false → IsLegal [] (calls_of s (trace_after s.script s.schedule))

step_judged : (s t : State) (c : ℕ) → Holds s → HasRoom s.shared → Judged s → next s c ≡ Stepped t → Judged t
step_judged s t c h room k made =
    let step : StepIs s c t = step_is s t c made in
    let left = each_step_leaves s t c step in
    let script : t.script ≡ s.script = ap (λ (x : State). x.script) left.is in
    let schedule : t.schedule ≡ s.schedule ++ c ∷ [] = ap (λ (x : State). x.schedule) left.is in
    let old : Trace = trace_after s.script s.schedule in
    let trace : trace_after t.script t.schedule ≡ traced s t old c = (λ j. trace_after (script j) (schedule j)) ∙ trace_goes_on s.script s.schedule s t c k.run made in
    let led : after (start t.script) t.schedule ≡ Some t = (λ j. after (start (script j)) (schedule j)) ∙ after_more (start s.script) s t s.schedule c k.run made in
    let here : IsRun s = record { limits = h.script; run = k.run } in
    let there : IsRun t = record { limits = subst IsScript (sym script) h.script; run = led } in
    let first : ℕ = first_now step.client.call (place_in s) step.client.first in
    let call : Running = call_now c step.client.call step.asked in
    let d : Doing = doing_after s t old c step.client step.asked in
    record {
      run = led;
      each = its_left s t c step.client step.asked first step.commanded step.came step.left k.each;
      legal = λ none. (let before : has_rot s.script ≡ false = ap has_rot (sym script) ∙ none in
          let is : IsStep s t old (trace_after t.script t.schedule) c = record {
            before = runs_ground s here;
            after = runs_ground t there;
            step = step;
            sound = no_rot s.script c step.client.done step.asked before step.commanded;
          } in
          let allowed = steps_answer s t old (trace_after t.script t.schedule) c is (runs_know s here (runs.runs_leave (length s.schedule))) (runs_honest s here before) in
          subst (λ (x : Trace). IsLegal [] (calls_of t x)) (sym (trace ∙ steps_are_traced s t old c step))
          (legal_left s t c step.client step.asked first step.commanded old call d is.before.beside.entries step.came step.left allowed (k.legal before)));
    }

run_judged : (s : State) → IsRun s → Judged s
run_judged s run =
    let leave : LeaveRoom (length s.schedule) = runs.runs_leave (length s.schedule) in
    keep_always Judged step_judged s run leave (record { run = refl; each = tt; legal = λ none. tt })

-- the calls are the entries
pub runs_judge_all : RunsJudgeAll
runs_judge_all s run = entries_are s.script s.entries (trace_after s.script s.schedule).answered (traces_stand_beside s.script s.schedule s run.run).entries (run_judged s run).each

pub runs_are_legal : RunsAreLegal
runs_are_legal s run none = (run_judged s run).legal none

-- they are linear
pub runs_are_linear : RunsAreLinear
runs_are_linear s run none =
    let order : AreInOrder s = runs_are_in_order s run in
    let are : CallsAreEntries s (trace_after s.script s.schedule) = runs_judge_all s run in
    record {
      legal = runs_are_legal s run none;
      answers = all_answer s.script s.entries (trace_after s.script s.schedule).answered;
      within = all_unmapped (λ (a : histories.Answered). a.entry) (IsWithinInterval s.schedule) (calls_of s (trace_after s.script s.schedule)) (subst (AllByRecursion (IsWithinInterval s.schedule)) (sym are) order.within);
      points = subst (ArePointsAfter 0) (sym are) order.points;
      in_order = λ client. subst (λ (es : List Entry). FollowInOrder 1 0 (entries_of client es)) (sym are) (order.in_order client);
    }
