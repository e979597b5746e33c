-- The stages of a copy and of a merge that go on leave the metadata server as it is.
use Rattle.std.proofs.Common.{◌≡◌, ℕ, Option, Some, None, List, refl}
use Rattle.flr_base.specs.declared.reply.Left.{Left}
use Rattle.flr_base.specs.declared.reply.ObjectId.{ObjectId}
use Rattle.flr_base.specs.declared.reply.Range.{Range}
use Rattle.flr_base.specs.declared.reply.Reply.{Reply}
use Rattle.layout_lease.specs.Leases.{KeyView}
use Rattle.mirror_select.specs.declared.types.Piece.{Piece}
use Rattle.object_target.specs.declared.call.CallAnswer.{CallAnswer}
use Rattle.object_target.specs.declared.call.CallAnswer.TheVariants as answer
use Rattle.object_target.specs.Calls.{fence_answer, read_answer, reset_answer, write_answer}
use Rattle.meta_server.specs.Closing.{size_of}
use Rattle.meta_server.specs.Ending.{copy_ends, merge_ends}
use Rattle.meta_server.specs.Files.{MetaView}
use Rattle.meta_server.specs.Outcomes.{Breaks, Ending, Ends, Holds}
use Rattle.call_steps.specs.Pieces.{object_of}
use Rattle.call_steps.specs.Servers.{Servers}
use Rattle.call_steps.specs.Steps.{Outcome, Going, Fixed, Ended, Answered, Blocked}
use Rattle.resync_copy.specs.declared.merge_phase.MergeStage.{MergeStage}
use Rattle.resync_copy.specs.declared.merge_phase.MergeStage.TheVariants as merge
use Rattle.resync_copy.specs.declared.merge_phase.Pair.{Pair}
use Rattle.resync_copy.specs.declared.parts.CopyObject.{CopyObject}
use Rattle.resync_copy.specs.declared.phase.Chunk.{Chunk}
use Rattle.resync_copy.specs.declared.phase.CopyStage.{CopyStage}
use Rattle.resync_copy.specs.declared.phase.CopyStage.TheVariants as stage
use Rattle.resync_copy.specs.Calls.{CopyView}
use Rattle.resync_copy.specs.Comparing.{ComparingView, merge_fences}
use Rattle.resync_copy.specs.Copies.{ends_copy, fences_object, first_writer, object_at, piece_from, piece_to, puts_chunk, resets_object, settled_objects, settles, stage_at, takes_chunk, target_of}
use Rattle.resync_copy.specs.Merges.{ends_merge, merge_ends_with, merge_fences_object, merge_settled, merge_settles, merge_stage_at, our_piece, takes_ours, takes_theirs, their_piece}
use Rattle.resync_copy.specs.Views.{CopyingView, fences_of, resets_of}

-- who goes on left the metadata server as it was
abbrev pub KeepsMeta : MetaView → Outcome CopyView → Type 0
KeepsMeta m (Going next after) = after.meta ≡ m
KeepsMeta m (Fixed next reply takes after) = after.meta ≡ m
KeepsMeta m (Ended after) = Unit {0}
KeepsMeta m (Answered reply takes after) = Unit {0}
KeepsMeta m (Blocked holder) = Unit {0}

module _ (k : CopyView) (s : Servers) where
  fences : (x : CopyingView) (next : ℕ) (o : CopyObject) (a : CallAnswer) → KeepsMeta s.meta (fences_object k s x next o a)
  fences x next o answer.Ok = refl
  fences x next o (answer.Old kept) = refl
  fences x next o answer.Failed = refl

  resets : (x : CopyingView) (next : ℕ) (o : CopyObject) (a : CallAnswer) → KeepsMeta s.meta (resets_object k s x next o a)
  resets x next o answer.Ok = refl
  resets x next o (answer.Old kept) = refl
  resets x next o answer.Failed = refl

  settling : (x : CopyingView) (o : Option (ℕ × Range)) (size : Option ℕ) → KeepsMeta s.meta (settles k s x o size)
  settling x (Some told) size = tt
  settling x None size = refl

  takes : (h : Chunk) (p : Piece) (a : CallAnswer) → KeepsMeta s.meta (takes_chunk k s h p a)
  takes h p answer.Ok = refl
  takes h p (answer.Old kept) = refl
  takes h p answer.Failed = refl

  puts : (h : Chunk) (bytes : List ℕ) (p : Piece) (a : CallAnswer) → KeepsMeta s.meta (puts_chunk k s h bytes p a)
  puts h bytes p answer.Ok = refl
  puts h bytes p (answer.Old kept) = refl
  puts h bytes p answer.Failed = refl

  ends : (cleared : List ℕ) (left : List Left) (o : Ending (Unit {0})) → KeepsMeta s.meta (ends_copy k s cleared left o)
  ends cleared left (Ends done after) = tt
  ends cleared left (Breaks step after) = tt
  ends cleared left (Holds holder) = tt

  pub stage_meta : (next : CopyStage) → KeepsMeta s.meta (stage_at next k s)
  stage_meta (stage.Fence x next) = fences x next (object_at (fences_of x) next) (fence_answer (target_of s (object_at (fences_of x) next).object))
  stage_meta (stage.Reset x next) = resets x next (object_at (resets_of x) next) (reset_answer (target_of s (object_at (resets_of x) next).object) (object_at (resets_of x) next).object.number x.side.layout.generation)
  stage_meta (stage.Settle x) = settling x (first_writer s.locks k.client (settled_objects x)) (size_of x.side.file s.meta)
  stage_meta (stage.Take h) = takes h (piece_from h) (read_answer (target_of s (object_of (piece_from h))))
  stage_meta (stage.Put h bytes) = puts h bytes (piece_to h) (write_answer (target_of s (object_of (piece_to h))) (object_of (piece_to h)).number h.copying.side.layout.generation)
  stage_meta (stage.Done key cleared left) = ends cleared left (copy_ends key cleared s.meta)

  -- ---- a merge

  merge_fencing : (x : ComparingView) (next : ℕ) (o : ObjectId) (a : CallAnswer) → KeepsMeta s.meta (merge_fences_object k s x next o a)
  merge_fencing x next o answer.Ok = refl
  merge_fencing x next o (answer.Old kept) = refl
  merge_fencing x next o answer.Failed = refl

  merge_settling : (x : ComparingView) (o : Option (ℕ × Range)) (next : MergeStage) → KeepsMeta s.meta (merge_settles k s x o next)
  merge_settling x (Some told) next = tt
  merge_settling x None next = refl

  ours : (p : Pair) (q : Piece) (a : CallAnswer) → KeepsMeta s.meta (takes_ours k s p q a)
  ours p q answer.Ok = refl
  ours p q (answer.Old kept) = refl
  ours p q answer.Failed = refl

  theirs : (p : Pair) (mine : Option (List ℕ)) (q : Piece) (a : CallAnswer) → KeepsMeta s.meta (takes_theirs k s p mine q a)
  theirs p mine q answer.Ok = refl
  theirs p mine q (answer.Old kept) = refl
  theirs p mine q answer.Failed = refl

  merge_ending : (o : Ending (List ℕ)) → KeepsMeta s.meta (ends_merge k s o)
  merge_ending (Ends ids after) = tt
  merge_ending (Breaks step after) = tt
  merge_ending (Holds holder) = tt

  merge_done : (one two : KeyView) (refusal : Option Reply) → KeepsMeta s.meta (merge_ends_with k s one two refusal)
  merge_done one two (Some kept) = tt
  merge_done one two None = merge_ending (merge_ends one two s.meta)

  pub merge_meta : (next : MergeStage) → KeepsMeta s.meta (merge_stage_at next k s)
  merge_meta (merge.Fence x next) = merge_fencing x next (object_at (merge_fences x) next).object (fence_answer (target_of s (object_at (merge_fences x) next).object))
  merge_meta (merge.Settle x) = merge_settling x (first_writer s.locks k.client (merge_fences x)) (merge_settled x (size_of x.ours.file s.meta) (size_of x.theirs.file s.meta))
  merge_meta (merge.TakeOurs p) = ours p (our_piece p) (read_answer (target_of s (object_of (our_piece p))))
  merge_meta (merge.TakeTheirs p mine) = theirs p mine (their_piece p) (read_answer (target_of s (object_of (their_piece p))))
  merge_meta (merge.Done one two refusal) = merge_done one two refusal
