-- Each answer of a write has its cause.
use Rattle.std.proofs.Common.{◌≡◌, ℕ, ◌-◌, Bool, true, false, Option, Some, None, List, [], ◌∷◌, ◌++◌, nat_lt, inl, inr, refl, sym, ap, subst, ◌∙◌, arith}
use Rattle.std.proofs.lemmas.List.{append-nil}
use Rattle.flr_base.specs.Limits.{most_bytes}
use Rattle.flr_base.specs.declared.reply.Entry.{Entry}
use Rattle.flr_base.specs.declared.reply.Range.{Range}
use Rattle.flr_base.specs.declared.reply.Reply.{Reply}
use Rattle.extent_lock.specs.Extents.{blocker}
use Rattle.meta_server.specs.declared.answers.Opened.{Opened}
use Rattle.meta_server.specs.Closing.{is_there}
use Rattle.meta_server.specs.Files.{file_named}
use Rattle.meta_server.specs.Opening.{write_opens}
use Rattle.meta_server.specs.Outcomes.{Gives, Refuses, Waits}
use Rattle.meta_server.specs.Outcomes as meta
use Rattle.script_values.specs.declared.command.Command.{Command}
use Rattle.script_values.specs.declared.command.Command.TheVariants as command
use Rattle.call_steps.specs.Pieces.{piece_at}
use Rattle.call_steps.specs.Runs.{CallStep, Leaves}
use Rattle.call_steps.specs.Servers.{Servers}
use Rattle.call_steps.specs.Steps.{Outcome, widen}
use Rattle.client_write.specs.declared.phase.Sent.{Sent}
use Rattle.client_write.specs.declared.phase.Sent.TheVariants as sent
use Rattle.client_write.specs.declared.phase.WriteAt.{WriteAt}
use Rattle.client_write.specs.declared.phase.WriteAt.TheVariants as write
use Rattle.client_write.specs.Calls.{WriteView}
use Rattle.client_write.specs.Views.{WritingView}
use Rattle.client_write.specs.Writes.{commits_write, locks_piece, lock_for, opens, range_of, reply_of, write_at}
use Rattle.flr_steps.specs.declared.client.Running.{Running}
use Rattle.flr_steps.specs.declared.client.Running.TheVariants as running
use Rattle.flr_steps.specs.States.{IsRun, State, state_at}
use Rattle.flr_steps.specs.Traces.{Doing, Made, Past, is_opening, made_by, nothing_done}
use Rattle.flr_steps.specs.Traces as traces
use Rattle.flr_asked.specs.CallRuns.{FixesAnswer, IsCallTo, StandsIn, made_in, own_step, place_if}
use Rattle.flr_sole.proofs.Making.{made_none}
use Rattle.flr_claims.specs.Calls.{Call}
use Rattle.flr_claims.specs.Causes.{Answers, IsCaused}
use Rattle.flr_claims.specs.Refusals.{refusal_for}
use Rattle.flr_claims.specs.Runs.{call_before}
use Rattle.flr_honest.specs.WriteCauses.Laws.{IsWrite, WritesHaveCauses}
use Rattle.flr_honest.specs.WriteCauses.Stages.{HasDone, write_stage}
use Rattle.flr_honest.proofs.WriteCauses.Answering.{IsAnsweredSo, answered_so, call_with}
use Rattle.flr_honest.proofs.WriteCauses.Refusing.{IsRefusedAs, open_as}
use Rattle.flr_honest.proofs.WriteCauses.Walking.{Comes, all_from, done_from, done_in_from, done_last, done_then, walk_all}
use Rattle.flr_honest.proofs.WriteCauses.Writing.{write_so}
use Rattle.flr_honest.proofs.WriteCauses.WriteSteps.{each_goes, so}

same_state : (s t : State) → Some s ≡ Some t → s ≡ t
same_state s t e = cc e

-- what came of all pieces is what a write answers so
writes_so : (k : Call) (name : List ℕ) (offset : ℕ) (bytes : List ℕ) (came : Sent) → k.takes ≡ [] → IsAnsweredSo k came
    → Answers k (command.Write name offset bytes) (reply_of came)
writes_so k name offset bytes sent.All later is = (later, is)
writes_so k name offset bytes (sent.Failed accepted call) later is = (later, is)
writes_so k name offset bytes (sent.Old accepted step) later is = (later, is)

module _ (s : State) (run : IsRun s) (e : Entry) (p : Past) (before : State) (before_is : state_at s.script s.schedule (e.at - 1) ≡ Some before) (name : List ℕ) (offset : ℕ) (bytes : List ℕ)
    (call : IsCallTo s.script s.schedule (command.Write name offset bytes) e p) where
  abbrev asked : Command
  asked = command.Write name offset bytes

  abbrev so_here : WriteAt → Running
  so_here a = so s run e.client e.first name offset bytes a

  abbrev view : WriteAt → WriteView
  view a = write_so s.script s.schedule e.client e.first name offset bytes a

  -- the last step, and what had been done before it
  abbrev y : CallStep Running
  y = call.last

  abbrev d : Doing
  d = done_from nothing_done call.front

  reached : (b : WriteAt) × Comes s.script s.schedule e.client e.first asked so_here write_stage d b y
  reached =
      walk_all s.script s.schedule e.client e.first asked so_here write_stage (each_goes s run e.client e.first name offset bytes) write.Open refl call.front y call.run call.stand
      (all_from (own_step e.client asked) (call.front ++ y ∷ []) (Some (so_here write.Open)) 0 e.first call.run call.begins)

  did : p.doing ≡ done_then d y
  did = call.did_is ∙ done_in_from (call.front ++ y ∷ []) ∙ done_last call.front y nothing_done

  module _ (b : WriteAt) (comes : Comes s.script s.schedule e.client e.first asked so_here write_stage d b y) where
    -- the servers before the last step are those before the point
    before_shared : y.before ≡ before.shared
    before_shared =
        let st : StandsIn s.script s.schedule e.client asked y = comes.stands in
        let same : st.old ≡ before = same_state st.old before (sym st.old_is ∙ ap (λ (n : ℕ). state_at s.script s.schedule (n - 1)) call.place_is ∙ before_is) in
        st.before_is ∙ ap (λ (t : State). t.shared) same

    abbrev Caused : Doing → Type 0
    Caused dd = IsCaused (call_with before e asked dd) e.reply

    opened : b ≡ write.Open → (o : meta.Outcome Opened) → write_opens e.client name (range_of (view write.Open)) y.place y.before.meta ≡ o
        → FixesAnswer (widen running.Write (opens (view write.Open) y.before o)) e.reply e.takes → Caused (done_then d y)
    opened is (Gives o after) k fixes = absurd fixes
    opened is (Refuses answer) k fixes =
        let range : Range = range_of (view write.Open) in
        let opens_now : is_opening y.call ≡ true = ap is_opening comes.step.same ∙ ap traces.write_opens is in
        let refused : refusal_for asked y.before ≡ Some answer = subst (IsRefusedAs (refusal_for asked y.before)) k (open_as e.client range y.place y.before.meta name (nat_lt most_bytes range.end) (file_named name y.before.meta.files)) in
        inl (ap (λ (t : Bool). place_if t y.place d.opened) opens_now ∙ call.place_is, ap (refusal_for asked) (sym before_shared) ∙ refused ∙ ap (λ (r : Reply). Some r) fixes.0, sym fixes.1)
    opened is (Waits holder) k fixes = absurd fixes

    locks : (x : WritingView) (next : ℕ) (o : Option (ℕ × Range))
        → FixesAnswer (widen running.Write (locks_piece (view (write.Lock x next)) y.before x next o)) e.reply e.takes → Caused (done_then d y)
    locks x next (Some told) fixes = absurd fixes
    locks x next None fixes = absurd fixes

    -- a commit calls no target
    commit_same : (x : WritingView) (end : ℕ) (came : Sent) → b ≡ write.Commit x end came → y.after.targets ≡ y.before.targets → done_then d y ≡ d
    commit_same x end came is same =
        let shut : is_opening y.call ≡ false = ap is_opening comes.step.same ∙ ap traces.write_opens is in
        let none : made_in y ≡ [] = ap (made_by y.place y.before.targets) same ∙ made_none y.place y.before.targets in
        (λ j. record { opened = place_if (shut j) y.place d.opened; made = d.made ++ none j }) ∙ ap (λ (ms : List Made). record { opened = d.opened; made = ms }) (append-nil d.made)

    committed : (x : WritingView) (end : ℕ) (came : Sent) → b ≡ write.Commit x end came → (t : Bool) → is_there x.opened.file y.before.meta ≡ t
        → Leaves (widen running.Write (commits_write (view (write.Commit x end came)) y.before x end came t)) y.after
        → FixesAnswer (widen running.Write (commits_write (view (write.Commit x end came)) y.before x end came t)) e.reply e.takes → Caused (done_then d y)
    committed x end came is true there left fixes =
        let has = subst (λ (a : WriteAt). HasDone s.script s.schedule e.client e.first asked d (write_stage a)) is comes.has in
        let later = comes.step.later in
        let place = call.place_is in
        let so_far : IsAnsweredSo (call_with before e asked d) came =
        answered_so s.script s.schedule e asked before before_is d comes.now comes.past (omega (arith, later, place)) x.opened has.0 has.1.0 (ap (λ (t : Servers). is_there x.opened.file t.meta) (sym before_shared) ∙ there) came has.1.1 in
        let answers : Answers (call_with before e asked d) asked e.reply = subst (Answers (call_with before e asked d) asked) fixes.0 (writes_so (call_with before e asked d) name offset bytes came (sym fixes.1) so_far) in
        subst Caused (sym (commit_same x end came is (ap (λ (t : Servers). t.targets) left))) (inr answers)
    committed x end came is false there left fixes = absurd fixes

    by_phase : (a : WriteAt) → b ≡ a → FixesAnswer (widen running.Write (write_at a (view a) y.place y.before)) e.reply e.takes
        → Leaves (widen running.Write (write_at a (view a) y.place y.before)) y.after → Caused (done_then d y)
    by_phase write.Open is fixes left = opened is (write_opens e.client name (range_of (view write.Open)) y.place y.before.meta) refl fixes
    by_phase (write.Lock x next) is fixes left = locks x next (blocker y.before.locks (lock_for (view (write.Lock x next)) (piece_at x.pieces next))) fixes
    by_phase (write.Send x next) is fixes left = absurd fixes
    by_phase (write.Commit x end came) is fixes left = committed x end came is (is_there x.opened.file y.before.meta) refl left fixes
    by_phase write.UnlockAgain is fixes left = absurd fixes
    by_phase write.Unlock is fixes left = absurd fixes

    caused : Caused (done_then d y)
    caused =
        let came : y.came ≡ widen running.Write (write_at b (view b) y.place y.before) = comes.step.came in
        by_phase b refl (subst (λ (o : Outcome Running). FixesAnswer o e.reply e.takes) came call.fixes) (subst (λ (o : Outcome Running). Leaves o y.after) came comes.step.left)

  pub write_caused : IsCaused (call_before before e asked p) e.reply
  write_caused = subst (λ (dd : Doing). IsCaused (call_with before e asked dd) e.reply) (sym did) (caused reached.0 reached.1)

-- each answer of a write has its cause
pub writes_have_causes : WritesHaveCauses
writes_have_causes s e p is none of = by is.asked is.call of
  where
    by : (asked : Command) → IsCallTo s.script s.schedule asked e p → IsWrite asked → IsCaused (call_before is.before e asked p) e.reply
    by (command.Write name offset bytes) call of = write_caused s is.run e p is.before is.before_is name offset bytes call
    by (command.Read name offset len) call of = absurd of
    by (command.Truncate name size) call of = absurd of
    by (command.Lfs lfs) call of = absurd of
    by (command.Evict other) call of = absurd of
    by (command.Rot object offset byte) call of = absurd of
