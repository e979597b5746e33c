-- The steps of copies and of verifies: the call ends with its answer.
use Rattle.std.proofs.Common.{ℕ, Bool, true, false, Option, Some, None, List, refl}
use Rattle.flr_base.specs.declared.reply.FailedCall.{FailedCall}
use Rattle.flr_base.specs.declared.reply.Left.{Left}
use Rattle.flr_base.specs.declared.reply.ObjectId.{ObjectId}
use Rattle.flr_base.specs.declared.reply.Range.{Range}
use Rattle.flr_base.specs.declared.reply.Reply.{Reply}
use Rattle.layout_lease.specs.Leases.{KeyView}
use Rattle.mirror_select.specs.declared.types.Piece.{Piece}
use Rattle.object_target.specs.Calls.{fence_answer, read_answer, reset_answer, write_answer}
use Rattle.object_target.specs.declared.call.CallAnswer.{CallAnswer}
use Rattle.object_target.specs.declared.call.CallAnswer.TheVariants as answer
use Rattle.meta_server.specs.declared.answers.Begun.{Begun}
use Rattle.meta_server.specs.declared.answers.Begun.TheVariants as begun_as
use Rattle.meta_server.specs.Beginning.{copy_begins}
use Rattle.meta_server.specs.Closing.{holds, size_of}
use Rattle.meta_server.specs.Ending.{copy_ends, merge_ends}
use Rattle.meta_server.specs.Files.{File, file_named}
use Rattle.meta_server.specs.Outcomes.{Breaks, Ending, Ends, Gives, Holds, Refuses, Waits}
use Rattle.meta_server.specs.Outcomes as meta
use Rattle.call_steps.specs.Pieces.{object_of}
use Rattle.call_steps.specs.Servers.{Servers}
use Rattle.call_steps.specs.Steps.{Outcome}
use Rattle.mirror_verify.specs.Blocks.{copy_at as block_at}
use Rattle.mirror_verify.specs.declared.phase.VerifyAt.{VerifyAt}
use Rattle.mirror_verify.specs.declared.phase.VerifyAt.TheVariants as verify
use Rattle.mirror_verify.specs.declared.phase.Verifying.{Verifying}
use Rattle.mirror_verify.specs.Verifies as verifies
use Rattle.mirror_verify.specs.Views.{VerifyView}
use Rattle.resync_copy.specs.Calls.{CopyView}
use Rattle.resync_copy.specs.Comparing.{ComparingView, merge_fences}
use Rattle.resync_copy.specs.Copies.{ends_copy, fences_object, first_writer, object_at, piece_from, piece_to, puts_chunk, resets_object, settled_objects, settles, stage_at, takes_chunk, target_of}
use Rattle.resync_copy.specs.declared.merge_phase.MergeStage.{MergeStage}
use Rattle.resync_copy.specs.declared.merge_phase.MergeStage.TheVariants as merge
use Rattle.resync_copy.specs.declared.merge_phase.Pair.{Pair}
use Rattle.resync_copy.specs.declared.parts.CopyObject.{CopyObject}
use Rattle.resync_copy.specs.declared.phase.Chunk.{Chunk}
use Rattle.resync_copy.specs.declared.phase.CopyAt.{CopyAt}
use Rattle.resync_copy.specs.declared.phase.CopyAt.TheVariants as at
use Rattle.resync_copy.specs.declared.phase.CopyStage.{CopyStage}
use Rattle.resync_copy.specs.declared.phase.CopyStage.TheVariants as stage
use Rattle.resync_copy.specs.Merges.{ends_merge, merge_ends_with, merge_fences_object, merge_settled, merge_settles, merge_stage_at, our_piece, takes_ours, takes_theirs, their_piece}
use Rattle.resync_copy.specs.Steps.{begins, copy_at}
use Rattle.resync_copy.specs.Views.{CopyingView, fences_of, resets_of}
use Rattle.flr_past.proofs.Outcomes.{Once}

-- no step fixes an answer and goes on
abbrev OpenOnce : {C : Type 0} → Outcome C → Type 0
OpenOnce {C} o = Once (λ (x : C). false) false o

-- ---- verifies

module _ (v : VerifyView) (s : Servers) where
  verify_by_file : (o : Option File) → OpenOnce (verifies.opens_file v s o)
  verify_by_file None = tt
  verify_by_file (Some f) = refl

  verify_by_answer : (x : Verifying) (next : ℕ) (p : Piece) (a : CallAnswer) → OpenOnce (verifies.takes_copy v s x next p a)
  verify_by_answer x next p answer.Ok = refl
  verify_by_answer x next p (answer.Old kept) = refl
  verify_by_answer x next p answer.Failed = refl

  verify_by_cookie : (x : Verifying) (fault : Option FailedCall) (b : Bool) → OpenOnce (verifies.closes v s x fault b)
  verify_by_cookie x fault false = refl
  verify_by_cookie x fault true = tt

  pub verify_once : (at : VerifyAt) → OpenOnce (verifies.verify_at at v s)
  verify_once verify.Open = verify_by_file (file_named v.name s.meta.files)
  verify_once (verify.Take x next) = verify_by_answer x next (block_at x.copies next).piece (read_answer (verifies.target_of s (block_at x.copies next).piece))
  verify_once (verify.Close x fault) = verify_by_cookie x fault (holds x.opened.file x.opened.cookie s.meta)

-- ---- copies

module _ (c : CopyView) (s : Servers) where
  begun_by : (o : meta.Outcome Begun) → OpenOnce (begins c s o)
  begun_by (Gives begun_as.Nothing after) = tt
  begun_by (Gives (begun_as.Copy side ids) after) = refl
  begun_by (Gives (begun_as.Merge ours theirs) after) = refl
  begun_by (Refuses refusal) = tt
  begun_by (Waits holder) = tt

  fence_by : (x : CopyingView) (next : ℕ) (o : CopyObject) (a : CallAnswer) → OpenOnce (fences_object c s x next o a)
  fence_by x next o answer.Ok = refl
  fence_by x next o (answer.Old kept) = refl
  fence_by x next o answer.Failed = refl

  reset_by : (x : CopyingView) (next : ℕ) (o : CopyObject) (a : CallAnswer) → OpenOnce (resets_object c s x next o a)
  reset_by x next o answer.Ok = refl
  reset_by x next o (answer.Old kept) = refl
  reset_by x next o answer.Failed = refl

  settle_by : (x : CopyingView) (o : Option (ℕ × Range)) (size : Option ℕ) → OpenOnce (settles c s x o size)
  settle_by x (Some told) size = tt
  settle_by x None size = refl

  take_by : (h : Chunk) (p : Piece) (a : CallAnswer) → OpenOnce (takes_chunk c s h p a)
  take_by h p answer.Ok = refl
  take_by h p (answer.Old kept) = refl
  take_by h p answer.Failed = refl

  put_by : (h : Chunk) (bytes : List ℕ) (p : Piece) (a : CallAnswer) → OpenOnce (puts_chunk c s h bytes p a)
  put_by h bytes p answer.Ok = refl
  put_by h bytes p (answer.Old kept) = refl
  put_by h bytes p answer.Failed = refl

  end_by : (cleared : List ℕ) (left : List Left) (o : Ending (Unit {0})) → OpenOnce (ends_copy c s cleared left o)
  end_by cleared left (Ends done after) = tt
  end_by cleared left (Breaks step after) = tt
  end_by cleared left (Holds holder) = tt

  by_stage : (next : CopyStage) → OpenOnce (stage_at next c s)
  by_stage (stage.Fence x next) = fence_by x next (object_at (fences_of x) next) (fence_answer (target_of s (object_at (fences_of x) next).object))
  by_stage (stage.Reset x next) = reset_by x next (object_at (resets_of x) next) (reset_answer (target_of s (object_at (resets_of x) next).object) (object_at (resets_of x) next).object.number x.side.layout.generation)
  by_stage (stage.Settle x) = settle_by x (first_writer s.locks c.client (settled_objects x)) (size_of x.side.file s.meta)
  by_stage (stage.Take h) = take_by h (piece_from h) (read_answer (target_of s (object_of (piece_from h))))
  by_stage (stage.Put h bytes) = put_by h bytes (piece_to h) (write_answer (target_of s (object_of (piece_to h))) (object_of (piece_to h)).number h.copying.side.layout.generation)
  by_stage (stage.Done key cleared left) = end_by cleared left (copy_ends key cleared s.meta)

  merge_fence_by : (x : ComparingView) (next : ℕ) (o : ObjectId) (a : CallAnswer) → OpenOnce (merge_fences_object c s x next o a)
  merge_fence_by x next o answer.Ok = refl
  merge_fence_by x next o (answer.Old kept) = refl
  merge_fence_by x next o answer.Failed = refl

  merge_settle_by : (x : ComparingView) (o : Option (ℕ × Range)) (next : MergeStage) → OpenOnce (merge_settles c s x o next)
  merge_settle_by x (Some told) next = tt
  merge_settle_by x None next = refl

  our_take_by : (p : Pair) (q : Piece) (a : CallAnswer) → OpenOnce (takes_ours c s p q a)
  our_take_by p q answer.Ok = refl
  our_take_by p q (answer.Old kept) = refl
  our_take_by p q answer.Failed = refl

  their_take_by : (p : Pair) (ours : Option (List ℕ)) (q : Piece) (a : CallAnswer) → OpenOnce (takes_theirs c s p ours q a)
  their_take_by p ours q answer.Ok = refl
  their_take_by p ours q (answer.Old kept) = refl
  their_take_by p ours q answer.Failed = refl

  merge_end_by : (o : Ending (List ℕ)) → OpenOnce (ends_merge c s o)
  merge_end_by (Ends ids after) = tt
  merge_end_by (Breaks step after) = tt
  merge_end_by (Holds holder) = tt

  merge_done_by : (ours theirs : KeyView) (refusal : Option Reply) → OpenOnce (merge_ends_with c s ours theirs refusal)
  merge_done_by ours theirs (Some kept) = tt
  merge_done_by ours theirs None = merge_end_by (merge_ends ours theirs s.meta)

  by_merge : (next : MergeStage) → OpenOnce (merge_stage_at next c s)
  by_merge (merge.Fence x next) = merge_fence_by x next (object_at (merge_fences x) next).object (fence_answer (target_of s (object_at (merge_fences x) next).object))
  by_merge (merge.Settle x) = merge_settle_by x (first_writer s.locks c.client (merge_fences x)) (merge_settled x (size_of x.ours.file s.meta) (size_of x.theirs.file s.meta))
  by_merge (merge.TakeOurs p) = our_take_by p (our_piece p) (read_answer (target_of s (object_of (our_piece p))))
  by_merge (merge.TakeTheirs p ours) = their_take_by p ours (their_piece p) (read_answer (target_of s (object_of (their_piece p))))
  by_merge (merge.Done ours theirs refusal) = merge_done_by ours theirs refusal

  pub copy_once : (at : CopyAt) → OpenOnce (copy_at at c s)
  copy_once at.Begin = begun_by (copy_begins c.client c.name c.what s.meta)
  copy_once (at.Copy next) = by_stage next
  copy_once (at.Merge next) = by_merge next
