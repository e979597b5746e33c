-- Which step calls a target, and how.
use Rattle.std.proofs.Common.{◌≡◌, ℕ, ◌<◌, Bool, true, false, List, length, Option, Some, None, refl, sym, ap, subst, ◌∙◌}
use Rattle.std.proofs.Math.ListN.{set}
use Rattle.std.proofs.lemmas.List.{get_or-set_same}
use Rattle.std.proofs.lemmas.Option.{unwrap_or-slice_get}
use Rattle.flr_base.specs.declared.reply.Range.{Range}
use Rattle.object_target.specs.declared.call.CallEntry.{CallEntry}
use Rattle.object_target.specs.Calls.{has_effect, is_old, next_fail}
use Rattle.object_target.specs.Objects.{with_bytes, with_cut}
use Rattle.object_target.specs.TargetState.{IsLogged, TargetState, next_call}
use Rattle.object_target.proofs.CallsLaws.{logged_new}
use Rattle.extent_lock.specs.Extents.{blocker}
use Rattle.meta_server.specs.declared.answers.Opened.{Opened}
use Rattle.meta_server.specs.Outcomes.{Gives, Refuses, Waits}
use Rattle.meta_server.specs.Outcomes as meta
use Rattle.meta_server.specs.Opening.{cut_opens, write_opens}
use Rattle.meta_server.specs.Closing.{is_there}
use Rattle.call_steps.specs.Pieces.{object_of, piece_at}
use Rattle.call_steps.specs.Runs.{CallStep, Leaves}
use Rattle.call_steps.specs.Servers.{Servers, target_at}
use Rattle.call_steps.specs.Steps.{Outcome}
use Rattle.client_write.specs.declared.phase.CutAt.{CutAt}
use Rattle.client_write.specs.declared.phase.CutAt.TheVariants as cut
use Rattle.client_write.specs.declared.phase.Sent.{Sent}
use Rattle.client_write.specs.declared.phase.Sent.TheVariants as sent
use Rattle.client_write.specs.declared.phase.WriteAt.{WriteAt}
use Rattle.client_write.specs.declared.phase.WriteAt.TheVariants as at
use Rattle.client_write.specs.Attempts.{DoesDeed, opened_by}
use Rattle.client_write.specs.Calls.{TruncateView, WriteView}
use Rattle.client_write.specs.CutRuns.{CutStepDoesDeed, cut_deed_at, punch_call, tail_answer}
use Rattle.client_write.specs.Truncates.{commits_cut, first_blocker, locks_for, locks_tails, opens_cut, tail_at, truncate_at}
use Rattle.client_write.specs.WriteRuns.{StepDoesDeed, piece_answer, write_call, write_deed_at}
use Rattle.client_write.specs.Writes.{bytes_of, commits_write, lock_for, locks_piece, opens, write_at}

-- the target that was called has the call in its log
called : (targets : List TargetState) (id : ℕ) (after : TargetState) (call : ℕ) (entry : CallEntry) → id < length targets → IsLogged after call entry → IsLogged (target_at (set targets id after) id) call entry
called targets id after call entry there logged =
    subst (λ (t : TargetState). IsLogged t call entry) (sym (unwrap_or-slice_get (set targets id after) id _ ∙ get_or-set_same targets id after _ there)) logged

same_targets : (s left : Servers) → left ≡ s → left.targets ≡ s.targets
same_targets s left e = ap (λ (o : Servers). o.targets) e

does : (p : WriteAt) (made : CallStep WriteView) → Leaves (write_at p made.call made.place made.before) made.after → DoesDeed made (write_deed_at p made.call made.place made.before)
does at.Open made left = by (write_opens made.call.client made.call.name _ made.place made.before.meta) left
  where
    by : (o : meta.Outcome Opened) → Leaves (opens made.call made.before o) made.after → DoesDeed made (opened_by o)
    by (Gives o after) left = ap (λ (s : Servers). s.targets) left
    by (Refuses reply) left = same_targets made.before made.after left
    by (Waits holder) left = absurd left
does (at.Lock x i) made left = by (blocker made.before.locks (lock_for made.call (piece_at x.pieces i))) left
  where
    by : (b : Option (ℕ × Range)) → Leaves (locks_piece made.call made.before x i b) made.after → made.after.targets ≡ made.before.targets
    by (Some told) left = absurd left
    by None left = ap (λ (s : Servers). s.targets) left
does (at.Send x i) made left = λ there.
    let p = piece_at x.pieces i in
    let t = target_at made.before.targets (object_of p).target in
    let entry : CallEntry = (write_call made.call x.opened (piece_answer made.before x p) p).entry in
    let effect = has_effect (next_fail t) (is_old t (object_of p).number x.opened.layout.generation) in
    record {
      next = refl;
      logged =
          subst (λ (s : Servers). IsLogged (target_at s.targets (object_of p).target) (next_call t) entry) (sym left)
          (called made.before.targets (object_of p).target _ (next_call t) entry there
          (logged_new t effect (with_bytes t.objects (object_of p).number p.offset (bytes_of made.call p)) entry));
    }
does (at.Commit x end came) made left = by (is_there x.opened.file made.before.meta) left
  where
    by : (b : Bool) → Leaves (commits_write made.call made.before x end came b) made.after → made.after.targets ≡ made.before.targets
    by true left = ap (λ (s : Servers). s.targets) left
    by false left = same_targets made.before made.after left
does at.UnlockAgain made left = ap (λ (s : Servers). s.targets) left
does at.Unlock made left = ap (λ (s : Servers). s.targets) left

pub step_does_deed : StepDoesDeed
step_does_deed made last is = does made.call.at made (subst (λ (o : Outcome WriteView). Leaves o made.after) is.came is.left)

does_cut : (p : CutAt) (made : CallStep TruncateView) → Leaves (truncate_at p made.call made.place made.before) made.after → DoesDeed made (cut_deed_at p made.call made.place made.before)
does_cut cut.Open made left = by (cut_opens made.call.client made.call.name made.call.size made.place made.before.meta) left
  where
    by : (o : meta.Outcome Opened) → Leaves (opens_cut made.call made.before o) made.after → DoesDeed made (opened_by o)
    by (Gives o after) left = ap (λ (s : Servers). s.targets) left
    by (Refuses reply) left = same_targets made.before made.after left
    by (Waits holder) left = absurd left
does_cut (cut.Lock x) made left = by (first_blocker (locks_for made.call x) made.before.locks) left
  where
    by : (b : Option (ℕ × Range)) → Leaves (locks_tails made.call made.before x b) made.after → made.after.targets ≡ made.before.targets
    by (Some told) left = absurd left
    by None left = ap (λ (s : Servers). s.targets) left
does_cut (cut.Punch x i) made left = λ there.
    let tail = tail_at x.tails i in
    let t = target_at made.before.targets tail.object.target in
    let entry : CallEntry = (punch_call x.opened (tail_answer made.before x tail) tail).entry in
    let effect = has_effect (next_fail t) (is_old t tail.object.number x.opened.layout.generation) in
    record {
      next = refl;
      logged =
          subst (λ (s : Servers). IsLogged (target_at s.targets tail.object.target) (next_call t) entry) (sym left)
          (called made.before.targets tail.object.target _ (next_call t) entry there
          (logged_new t effect (with_cut t.objects tail.object.number tail.offset) entry));
    }
does_cut (cut.Commit x came) made left = by came (is_there x.opened.file made.before.meta) left
  where
    by : (how : Sent) (b : Bool) → Leaves (commits_cut made.call made.before x how b) made.after → made.after.targets ≡ made.before.targets
    by sent.All true left = ap (λ (s : Servers). s.targets) left
    by (sent.Failed accepted call) true left = ap (λ (s : Servers). s.targets) left
    by (sent.Old accepted step) true left = ap (λ (s : Servers). s.targets) left
    by how false left = same_targets made.before made.after left
does_cut cut.UnlockAgain made left = ap (λ (s : Servers). s.targets) left
does_cut cut.Unlock made left = ap (λ (s : Servers). s.targets) left

pub cut_step_does_deed : CutStepDoesDeed
cut_step_does_deed made last is = does_cut made.call.at made (subst (λ (o : Outcome TruncateView). Leaves o made.after) is.came is.left)
