-- The step of an extend that fixes its answer, and the calls that the steps before it made.
use Rattle.std.proofs.Common.{◌≡◌, ℕ, List, [], ◌∷◌, ◌++◌, Option, None, Some, inl, inr, refl, sym, ap, ◌∙◌, append_assoc}
use Rattle.flr_base.specs.declared.reply.Range.{Range}
use Rattle.flr_base.specs.declared.reply.Reply.{Reply}
use Rattle.flr_base.specs.declared.reply.Take.{Take}
use Rattle.mirror_select.proofs.Least.{In}
use Rattle.object_target.specs.declared.call.CallAnswer.{CallAnswer}
use Rattle.object_target.specs.declared.call.CallAnswer.TheVariants as answer
use Rattle.object_target.specs.Calls.{fence_answer, read_answer}
use Rattle.object_target.specs.TargetState.{TargetState}
use Rattle.meta_server.specs.Closing.{size_of}
use Rattle.meta_server.specs.Ending.{merge_ends}
use Rattle.meta_server.specs.Outcomes.{Ending, Ends, Breaks, Holds}
use Rattle.call_steps.specs.Pieces.{object_of}
use Rattle.call_steps.specs.Runs.{CallStep, IsRunOf, Leaves, goes_on}
use Rattle.call_steps.specs.Servers.{Servers}
use Rattle.call_steps.specs.Steps.{Outcome}
use Rattle.resync_copy.specs.declared.merge_phase.MergeStage.{MergeStage}
use Rattle.resync_copy.specs.declared.merge_phase.MergeStage.TheVariants as merge
use Rattle.resync_copy.specs.Calls.{CopyView}
use Rattle.resync_copy.specs.Comparing.{merge_fences}
use Rattle.resync_copy.specs.Copies.{first_writer, object_at, target_of}
use Rattle.resync_copy.specs.Merges.{ends_merge, merge_fences_object, merge_settled, merge_settles, merge_stage_at, our_piece, takes_ours, takes_theirs, their_piece}
use Rattle.resync_copy.specs.Steps.{copy_at, copy_step}
use Rattle.flr_steps.specs.declared.client.Running.TheVariants as running
use Rattle.flr_steps.specs.States.{after}
use Rattle.flr_steps.specs.Traces.{Made, made_by}
use Rattle.flr_sole.proofs.Making.{made_none}
use Rattle.flr_asked.specs.CallRuns.{FixesAnswer, made_in, of_kind}
use Rattle.flr_honest.proofs.MergeCauses.Walk.{calls_in}

-- ---- the last step

-- the last step of a run comes to what its call does, and leaves that
pub came_last : (rest : List (CallStep CopyView)) (end : CallStep CopyView) (call : Option CopyView) (last : ℕ) → IsRunOf copy_step (rest ++ end ∷ []) call last → (end.came ≡ copy_at end.call.at end.call end.before) × Leaves end.came end.after
came_last [] end None last run = absurd run
came_last [] end (Some call) last run = (run.0.came ∙ ap (λ (v : CopyView). copy_at v.at v end.before) (sym run.0.same), run.0.left)
came_last (y ∷ rest) end None last run = absurd run
came_last (y ∷ rest) end (Some call) last run = came_last rest end (goes_on y.came) y.place run.1

-- a step that fixes the answer of an extend that has begun calls no target
module _ (k : CopyView) (s left : Servers) (told : Reply) (takes : List Take) where
  -- where the answer is fixed the targets stay
  abbrev Leaving : Outcome CopyView → Type 0
  Leaving o = FixesAnswer o told takes → Leaves o left → left.targets ≡ s.targets

  -- an end
  ending : (o : Ending (List ℕ)) → Leaving (ends_merge k s o)
  ending (Ends ids after) fixes leaves = ap (λ (u : Servers). u.targets) leaves
  ending (Breaks step after) fixes leaves = ap (λ (u : Servers). u.targets) leaves
  ending (Holds holder) fixes leaves = absurd fixes

  -- each stage
  pub last_targets : (next : MergeStage) → Leaving (merge_stage_at next k s)
  last_targets (merge.Fence x next) = by (fence_answer (target_of s (object_at (merge_fences x) next).object))
    where
      by : (a : CallAnswer) → Leaving (merge_fences_object k s x next (object_at (merge_fences x) next).object a)
      by answer.Ok fixes leaves = absurd fixes
      by (answer.Old kept) fixes leaves = absurd fixes
      by answer.Failed fixes leaves = absurd fixes
  last_targets (merge.Settle x) = by (first_writer s.locks k.client (merge_fences x))
    where
      by : (o : Option (ℕ × Range)) → Leaving (merge_settles k s x o (merge_settled x (size_of x.ours.file s.meta) (size_of x.theirs.file s.meta)))
      by (Some holder) fixes leaves = absurd fixes
      by None fixes leaves = absurd fixes
  last_targets (merge.TakeOurs p) = by (read_answer (target_of s (object_of (our_piece p))))
    where
      by : (a : CallAnswer) → Leaving (takes_ours k s p (our_piece p) a)
      by answer.Ok fixes leaves = absurd fixes
      by (answer.Old kept) fixes leaves = absurd fixes
      by answer.Failed fixes leaves = absurd fixes
  last_targets (merge.TakeTheirs p bytes) = by (read_answer (target_of s (object_of (their_piece p))))
    where
      by : (a : CallAnswer) → Leaving (takes_theirs k s p bytes (their_piece p) a)
      by answer.Ok fixes leaves = absurd fixes
      by (answer.Old kept) fixes leaves = absurd fixes
      by answer.Failed fixes leaves = absurd fixes
  last_targets (merge.Done ours theirs (Some kept)) = λ fixes leaves. ap (λ (u : Servers). u.targets) leaves
  last_targets (merge.Done ours theirs None) = ending (merge_ends ours theirs s.meta)

-- the calls of steps one after the other
pub calls_joined : (xs ys : List (CallStep CopyView)) → calls_in (xs ++ ys) ≡ calls_in xs ++ calls_in ys
calls_joined [] ys = refl
calls_joined (x ∷ xs) ys = ap (λ (ms : List Made). made_in (of_kind running.Copy x) ++ ms) (calls_joined xs ys) ∙ sym (append_assoc (made_in (of_kind running.Copy x)) (calls_in xs) (calls_in ys))

-- targets that stay were not called
pub none_called : (place : ℕ) (old new : List TargetState) → new ≡ old → made_by place old new ≡ []
none_called place old new same = ap (λ (ts : List TargetState). made_by place old ts) same ∙ made_none place old

-- the last of a list is in it, and so is each of its front
pub in_last : {X : Type 0} (xs : List X) (x : X) → In x (xs ++ x ∷ [])
in_last [] x = inl refl
in_last (y ∷ ys) x = inr (in_last ys x)

pub in_front : {X : Type 0} (xs ys : List X) (x : X) → In x xs → In x (xs ++ ys)
in_front [] ys x i = absurd i
in_front (y ∷ xs) ys x (inl same) = inl same
in_front (y ∷ xs) ys x (inr more) = inr (in_front xs ys x more)
