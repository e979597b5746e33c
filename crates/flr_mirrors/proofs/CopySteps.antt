-- How many mirrors files have after each step of a copy.
use Rattle.std.proofs.Common.{◌≡◌, ℕ, Option, Some, None, List, refl, ap}
use Rattle.flr_base.specs.declared.reply.Left.{Left}
use Rattle.flr_base.specs.declared.reply.ObjectId.{ObjectId}
use Rattle.flr_base.specs.declared.reply.Range.{Range}
use Rattle.flr_base.specs.declared.reply.Reply.{Reply}
use Rattle.layout_lease.specs.Leases.{KeyView}
use Rattle.mirror_select.specs.declared.types.Piece.{Piece}
use Rattle.object_target.specs.declared.call.CallAnswer.{CallAnswer}
use Rattle.object_target.specs.declared.call.CallAnswer.TheVariants as answer
use Rattle.object_target.specs.Calls.{fence_answer, read_answer, reset_answer, write_answer}
use Rattle.meta_server.specs.declared.answers.Begun.{Begun}
use Rattle.meta_server.specs.declared.answers.Begun.TheVariants as begun_as
use Rattle.meta_server.specs.Beginning.{copy_begins}
use Rattle.meta_server.specs.Closing.{size_of}
use Rattle.meta_server.specs.Conditions.{MayMerge}
use Rattle.meta_server.specs.Ending.{copy_ends, merge_ends}
use Rattle.meta_server.specs.Outcomes.{Breaks, Ending, Ends, Gives, Holds, Refuses, Waits}
use Rattle.meta_server.specs.Outcomes as meta
use Rattle.meta_laws.specs.Calls.{BeginCopy, CopyDone, IsCopyable, MergeDone, left_at, left_by}
use Rattle.call_steps.specs.Pieces.{object_of}
use Rattle.call_steps.specs.Servers.{Servers}
use Rattle.resync_copy.specs.declared.merge_phase.MergeStage.{MergeStage}
use Rattle.resync_copy.specs.declared.merge_phase.MergeStage.TheVariants as merge
use Rattle.resync_copy.specs.declared.merge_phase.Pair.{Pair}
use Rattle.resync_copy.specs.declared.parts.CopyObject.{CopyObject}
use Rattle.resync_copy.specs.declared.phase.Chunk.{Chunk}
use Rattle.resync_copy.specs.declared.phase.CopyAt.{CopyAt}
use Rattle.resync_copy.specs.declared.phase.CopyAt.TheVariants as at
use Rattle.resync_copy.specs.declared.phase.CopyStage.{CopyStage}
use Rattle.resync_copy.specs.declared.phase.CopyStage.TheVariants as stage
use Rattle.resync_copy.specs.Calls.{CopyView}
use Rattle.resync_copy.specs.Comparing.{ComparingView, merge_fences}
use Rattle.resync_copy.specs.Copies.{ends_copy, fences_object, first_writer, object_at, piece_from, piece_to, puts_chunk, resets_object, settled_objects, settles, stage_at, takes_chunk, target_of}
use Rattle.resync_copy.specs.Merges.{ends_merge, merge_ends_with, merge_fences_object, merge_settled, merge_settles, merge_stage_at, our_piece, takes_ours, takes_theirs, their_piece}
use Rattle.resync_copy.specs.Steps.{begins, copy_at}
use Rattle.resync_copy.specs.Views.{CopyingView, fences_of, resets_of}
use Rattle.flr_numbers.specs.Copies.{copy_hand, merge_hand}
use Rattle.flr_numbers.specs.Hands.{Has}
use Rattle.flr_numbers.proofs.Merges.{may_merge}
use Rattle.flr_mirrors.proofs.Files.{HasFew, given_few}
use Rattle.flr_mirrors.proofs.Steps.{LeavesFew, by_call}

module _ (most : ℕ) (s : Servers) (h : HasFew most s.meta) (c : CopyView) where
  begun_by : IsCopyable c.what → (o : meta.Outcome Begun) → copy_begins c.client c.name c.what s.meta ≡ o → LeavesFew most (begins c s o)
  begun_by able (Gives begun_as.Nothing after) e = by_call most s.meta after (BeginCopy c.client c.name c.what) h able (ap (λ (o : meta.Outcome Begun). left_by o s.meta) e)
  begun_by able (Gives (begun_as.Copy side ids) after) e = by_call most s.meta after (BeginCopy c.client c.name c.what) h able (ap (λ (o : meta.Outcome Begun). left_by o s.meta) e)
  begun_by able (Gives (begun_as.Merge ours theirs) after) e = by_call most s.meta after (BeginCopy c.client c.name c.what) h able (ap (λ (o : meta.Outcome Begun). left_by o s.meta) e)
  begun_by able (Refuses refusal) e = h
  begun_by able (Waits holder) e = tt

  -- ---- a copy

  fences : (x : CopyingView) (next : ℕ) (o : CopyObject) (a : CallAnswer) → LeavesFew most (fences_object c s x next o a)
  fences x next o answer.Ok = h
  fences x next o (answer.Old kept) = h
  fences x next o answer.Failed = h

  resets : (x : CopyingView) (next : ℕ) (o : CopyObject) (a : CallAnswer) → LeavesFew most (resets_object c s x next o a)
  resets x next o answer.Ok = h
  resets x next o (answer.Old kept) = h
  resets x next o answer.Failed = h

  settling : (x : CopyingView) (o : Option (ℕ × Range)) (size : Option ℕ) → LeavesFew most (settles c s x o size)
  settling x (Some told) size = tt
  settling x None size = h

  takes : (k : Chunk) (p : Piece) (a : CallAnswer) → LeavesFew most (takes_chunk c s k p a)
  takes k p answer.Ok = h
  takes k p (answer.Old kept) = h
  takes k p answer.Failed = h

  puts : (k : Chunk) (bytes : List ℕ) (p : Piece) (a : CallAnswer) → LeavesFew most (puts_chunk c s k bytes p a)
  puts k bytes p answer.Ok = h
  puts k bytes p (answer.Old kept) = h
  puts k bytes p answer.Failed = h

  ends : (key : KeyView) (cleared : List ℕ) (left : List Left) (o : Ending (Unit {0})) → copy_ends key cleared s.meta ≡ o → LeavesFew most (ends_copy c s cleared left o)
  ends key cleared left (Ends done after) e = by_call most s.meta after (CopyDone key cleared) h tt (ap (λ (o : Ending (Unit {0})). left_at o s.meta) e)
  ends key cleared left (Breaks step after) e = by_call most s.meta after (CopyDone key cleared) h tt (ap (λ (o : Ending (Unit {0})). left_at o s.meta) e)
  ends key cleared left (Holds holder) e = tt

  by_stage : (next : CopyStage) → LeavesFew most (stage_at next c s)
  by_stage (stage.Fence x next) = fences x next (object_at (fences_of x) next) (fence_answer (target_of s (object_at (fences_of x) next).object))
  by_stage (stage.Reset x next) = resets x next (object_at (resets_of x) next) (reset_answer (target_of s (object_at (resets_of x) next).object) (object_at (resets_of x) next).object.number x.side.layout.generation)
  by_stage (stage.Settle x) = settling x (first_writer s.locks c.client (settled_objects x)) (size_of x.side.file s.meta)
  by_stage (stage.Take k) = takes k (piece_from k) (read_answer (target_of s (object_of (piece_from k))))
  by_stage (stage.Put k bytes) = puts k bytes (piece_to k) (write_answer (target_of s (object_of (piece_to k))) (object_of (piece_to k)).number k.copying.side.layout.generation)
  by_stage (stage.Done key cleared left) = ends key cleared left (copy_ends key cleared s.meta) refl

  -- ---- a file is taken in

  merge_fencing : (x : ComparingView) (next : ℕ) (o : ObjectId) (a : CallAnswer) → LeavesFew most (merge_fences_object c s x next o a)
  merge_fencing x next o answer.Ok = h
  merge_fencing x next o (answer.Old kept) = h
  merge_fencing x next o answer.Failed = h

  merge_settling : (x : ComparingView) (o : Option (ℕ × Range)) (next : MergeStage) → LeavesFew most (merge_settles c s x o next)
  merge_settling x (Some told) next = tt
  merge_settling x None next = h

  taking_ours : (p : Pair) (q : Piece) (a : CallAnswer) → LeavesFew most (takes_ours c s p q a)
  taking_ours p q answer.Ok = h
  taking_ours p q (answer.Old kept) = h
  taking_ours p q answer.Failed = h

  taking_theirs : (p : Pair) (ours : Option (List ℕ)) (q : Piece) (a : CallAnswer) → LeavesFew most (takes_theirs c s p ours q a)
  taking_theirs p ours q answer.Ok = h
  taking_theirs p ours q (answer.Old kept) = h
  taking_theirs p ours q answer.Failed = h

  merge_ending : (ours theirs : KeyView) → MayMerge ours theirs s.meta → (o : Ending (List ℕ)) → merge_ends ours theirs s.meta ≡ o → LeavesFew most (ends_merge c s o)
  merge_ending ours theirs may (Ends ids after) e = by_call most s.meta after (MergeDone ours theirs) h may (ap (λ (o : Ending (List ℕ)). left_at o s.meta) e)
  merge_ending ours theirs may (Breaks step after) e = by_call most s.meta after (MergeDone ours theirs) h may (ap (λ (o : Ending (List ℕ)). left_at o s.meta) e)
  merge_ending ours theirs may (Holds holder) e = tt

  merge_done : (ours theirs : KeyView) (refusal : Option Reply) → MayMerge ours theirs s.meta → LeavesFew most (merge_ends_with c s ours theirs refusal)
  merge_done ours theirs (Some kept) may = given_few most s.meta h ours theirs
  merge_done ours theirs None may = merge_ending ours theirs may (merge_ends ours theirs s.meta) refl

  module _ (client : ℕ) where
    by_merge : (next : MergeStage) → Has client s.meta s.locks (merge_hand next) → LeavesFew most (merge_stage_at next c s)
    by_merge (merge.Fence x next) has = merge_fencing x next (object_at (merge_fences x) next).object (fence_answer (target_of s (object_at (merge_fences x) next).object))
    by_merge (merge.Settle x) has = merge_settling x (first_writer s.locks c.client (merge_fences x)) (merge_settled x (size_of x.ours.file s.meta) (size_of x.theirs.file s.meta))
    by_merge (merge.TakeOurs p) has = taking_ours p (our_piece p) (read_answer (target_of s (object_of (our_piece p))))
    by_merge (merge.TakeTheirs p ours) has = taking_theirs p ours (their_piece p) (read_answer (target_of s (object_of (their_piece p))))
    by_merge (merge.Done ours theirs refusal) has = merge_done ours theirs refusal (may_merge client s.meta s.locks ours theirs has)

    -- ---- each step

    pub copy_leaves : IsCopyable c.what → (at : CopyAt) → Has client s.meta s.locks (copy_hand at) → LeavesFew most (copy_at at c s)
    copy_leaves able at.Begin has = begun_by able (copy_begins c.client c.name c.what s.meta) refl
    copy_leaves able (at.Copy next) has = by_stage next
    copy_leaves able (at.Merge next) has = by_merge next has
