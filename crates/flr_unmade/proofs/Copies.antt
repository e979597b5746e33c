-- What each step of a copy leaves of objects that were never made.
use Rattle.std.proofs.Common.{ℕ, Option, Some, None, List}
use Rattle.flr_base.specs.declared.reply.Left.{Left}
use Rattle.flr_base.specs.declared.reply.ObjectId.{ObjectId}
use Rattle.flr_base.specs.declared.reply.Range.{Range}
use Rattle.flr_base.specs.declared.reply.Reply.{Reply}
use Rattle.layout_lease.specs.Leases.{KeyView}
use Rattle.layout_state.specs.Making.{AreNext}
use Rattle.mirror_select.specs.declared.types.Piece.{Piece}
use Rattle.object_target.specs.declared.call.CallAnswer.{CallAnswer}
use Rattle.object_target.specs.declared.call.CallAnswer.TheVariants as answer
use Rattle.object_target.specs.Calls.{after_fence, after_read, after_reset, after_write, fence_answer, read_answer, reset_answer, write_answer}
use Rattle.meta_server.specs.declared.answers.Begun.{Begun}
use Rattle.meta_server.specs.declared.answers.Begun.TheVariants as begun_as
use Rattle.meta_server.specs.Beginning.{copy_begins}
use Rattle.meta_server.specs.Closing.{size_of}
use Rattle.meta_server.specs.Ending.{copy_ends, merge_ends}
use Rattle.meta_server.specs.Outcomes.{Ending, Ends, Breaks, Holds, Gives, Refuses, Waits}
use Rattle.meta_server.specs.Outcomes as meta
use Rattle.call_steps.specs.Pieces.{length_of, object_of}
use Rattle.call_steps.specs.Servers.{Servers}
use Rattle.resync_copy.specs.declared.merge_phase.MergeStage.{MergeStage}
use Rattle.resync_copy.specs.declared.merge_phase.MergeStage.TheVariants as merge
use Rattle.resync_copy.specs.declared.merge_phase.Pair.{Pair}
use Rattle.resync_copy.specs.declared.parts.CopyObject.{CopyObject}
use Rattle.resync_copy.specs.declared.phase.Chunk.{Chunk}
use Rattle.resync_copy.specs.declared.phase.CopyAt.{CopyAt}
use Rattle.resync_copy.specs.declared.phase.CopyAt.TheVariants as at
use Rattle.resync_copy.specs.declared.phase.CopyStage.{CopyStage}
use Rattle.resync_copy.specs.declared.phase.CopyStage.TheVariants as stage
use Rattle.resync_copy.specs.Calls.{CopyView}
use Rattle.resync_copy.specs.Comparing.{ComparingView, merge_fences, version_at}
use Rattle.resync_copy.specs.Copies.{emptied, ends_copy, fenced, fences_object, first_writer, object_at, piece_from, piece_put, piece_read, piece_to, puts_chunk, resets_object, settled_objects, settles, stage_at, takes_chunk, target_of}
use Rattle.resync_copy.specs.Merges.{ends_merge, merge_ends_with, merge_fenced, merge_fences_object, merge_settled, merge_settles, merge_stage_at, our_piece, takes_ours, takes_theirs, their_piece}
use Rattle.resync_copy.specs.Steps.{begins, copy_at}
use Rattle.resync_copy.specs.Views.{CopyingView, fences_of, resets_of}
use Rattle.flr_numbers.specs.Copies.{IsCompared, IsListed, IsListedAt, copy_hand, merge_hand, stage_hand}
use Rattle.flr_numbers.specs.Hands.{Has}
use Rattle.flr_unmade.proofs.Calls.{StepSpares, stays}
use Rattle.flr_unmade.proofs.Pieces.{fence_made, merge_fence_made, put_made, reset_made}
use Rattle.flr_unmade.proofs.Targets.{IsMade, Spares, adds_made, adds_none, fence_others, reset_others, write_others}

module _ (s : Servers) (k : CopyView) where
  -- ---- begin

  begins_spares : (o : meta.Outcome Begun) → StepSpares s (begins k s o)
  begins_spares (Gives begun_as.Nothing after) = stays s
  begins_spares (Gives (begun_as.Copy side ids) after) = stays s
  begins_spares (Gives (begun_as.Merge ours theirs) after) = stays s
  begins_spares (Refuses answer) = stays s
  begins_spares (Waits holder) = tt

  -- ---- a copy of one file

  fences_spares : (x : CopyingView) (next : ℕ) (o : CopyObject) (came : CallAnswer) → IsMade s.meta o.object → StepSpares s (fences_object k s x next o came)
  fences_spares x next o came made = by came
    where
      one : Spares s.meta s.targets (fenced s x o.object).targets
      one = adds_made s.meta s.targets o.object (after_fence (target_of s o.object) o.object.number x.side.layout.generation) made (λ n apart. fence_others (target_of s o.object) o.object.number x.side.layout.generation n apart)

      by : (came : CallAnswer) → StepSpares s (fences_object k s x next o came)
      by answer.Ok = one
      by (answer.Old kept) = one
      by answer.Failed = one

  resets_spares : (x : CopyingView) (next : ℕ) (o : CopyObject) (came : CallAnswer) → IsMade s.meta o.object → StepSpares s (resets_object k s x next o came)
  resets_spares x next o came made = by came
    where
      one : Spares s.meta s.targets (emptied s x o.object).targets
      one = adds_made s.meta s.targets o.object (after_reset (target_of s o.object) o.object.number x.side.layout.generation) made (λ n apart. reset_others (target_of s o.object) o.object.number x.side.layout.generation n apart)

      by : (came : CallAnswer) → StepSpares s (resets_object k s x next o came)
      by answer.Ok = one
      by (answer.Old kept) = one
      by answer.Failed = one

  settles_spares : (x : CopyingView) (w : Option (ℕ × Range)) (size : Option ℕ) → StepSpares s (settles k s x w size)
  settles_spares x (Some told) size = tt
  settles_spares x None size = stays s

  took : (p : Piece) → Spares s.meta s.targets (piece_read s p).targets
  took p = adds_none s.meta s.targets (object_of p).target (after_read (target_of s (object_of p)) (object_of p).number p.offset (length_of p)) (λ n none. none)

  takes_spares : (g : Chunk) (p : Piece) (came : CallAnswer) → StepSpares s (takes_chunk k s g p came)
  takes_spares g p answer.Ok = took p
  takes_spares g p (answer.Old kept) = took p
  takes_spares g p answer.Failed = took p

  puts_spares : (g : Chunk) (bytes : List ℕ) (p : Piece) (came : CallAnswer) → IsMade s.meta (object_of p) → StepSpares s (puts_chunk k s g bytes p came)
  puts_spares g bytes p came made = by came
    where
      one : Spares s.meta s.targets (piece_put s g p bytes).targets
      one =
          adds_made s.meta s.targets (object_of p) (after_write (target_of s (object_of p)) (object_of p).number p.offset bytes g.copying.side.layout.generation) made
          (λ n apart. write_others (target_of s (object_of p)) (object_of p).number p.offset bytes g.copying.side.layout.generation n apart)

      by : (came : CallAnswer) → StepSpares s (puts_chunk k s g bytes p came)
      by answer.Ok = one
      by (answer.Old kept) = one
      by answer.Failed = one

  ends_spares : (cleared : List ℕ) (left : List Left) (e : Ending (Unit {0})) → StepSpares s (ends_copy k s cleared left e)
  ends_spares cleared left (Ends done after) = stays s
  ends_spares cleared left (Breaks step after) = stays s
  ends_spares cleared left (Holds holder) = tt

  -- ---- a copy by a victim

  merge_fences_spares : (x : ComparingView) (next : ℕ) (o : ObjectId) (came : CallAnswer) → IsMade s.meta o → StepSpares s (merge_fences_object k s x next o came)
  merge_fences_spares x next o came made = by came
    where
      one : Spares s.meta s.targets (merge_fenced s o (version_at x next)).targets
      one = adds_made s.meta s.targets o (after_fence (target_of s o) o.number (version_at x next)) made (λ n apart. fence_others (target_of s o) o.number (version_at x next) n apart)

      by : (came : CallAnswer) → StepSpares s (merge_fences_object k s x next o came)
      by answer.Ok = one
      by (answer.Old kept) = one
      by answer.Failed = one

  merge_settles_spares : (x : ComparingView) (w : Option (ℕ × Range)) (next : MergeStage) → StepSpares s (merge_settles k s x w next)
  merge_settles_spares x (Some told) next = tt
  merge_settles_spares x None next = stays s

  ours_spare : (p : Pair) (q : Piece) (came : CallAnswer) → StepSpares s (takes_ours k s p q came)
  ours_spare p q answer.Ok = took q
  ours_spare p q (answer.Old kept) = took q
  ours_spare p q answer.Failed = took q

  theirs_spare : (p : Pair) (ours : Option (List ℕ)) (q : Piece) (came : CallAnswer) → StepSpares s (takes_theirs k s p ours q came)
  theirs_spare p ours q answer.Ok = took q
  theirs_spare p ours q (answer.Old kept) = took q
  theirs_spare p ours q answer.Failed = took q

  merge_ends_spares : (e : Ending (List ℕ)) → StepSpares s (ends_merge k s e)
  merge_ends_spares (Ends ids after) = stays s
  merge_ends_spares (Breaks step after) = stays s
  merge_ends_spares (Holds holder) = tt

  done_spares : (ours theirs : KeyView) (refusal : Option Reply) → StepSpares s (merge_ends_with k s ours theirs refusal)
  done_spares ours theirs (Some kept) = stays s
  done_spares ours theirs None = merge_ends_spares (merge_ends ours theirs s.meta)

  -- ---- each stage

  module _ (next : AreNext s.meta.nexts) where
    stage_spares : (a : CopyStage) → Has k.client s.meta s.locks (stage_hand a) → IsListed a → StepSpares s (stage_at a k s)
    stage_spares (stage.Fence x place) has listed = fences_spares x place (object_at (fences_of x) place) (fence_answer (target_of s (object_at (fences_of x) place).object)) (fence_made s.meta x place has.made.0 listed)
    stage_spares (stage.Reset x place) has listed =
        resets_spares x place (object_at (resets_of x) place) (reset_answer (target_of s (object_at (resets_of x) place).object) (object_at (resets_of x) place).object.number x.side.layout.generation) (reset_made s.meta x place has.made.0 listed)
    stage_spares (stage.Settle x) has listed = settles_spares x (first_writer s.locks k.client (settled_objects x)) (size_of x.side.file s.meta)
    stage_spares (stage.Take g) has listed = takes_spares g (piece_from g) (read_answer (target_of s (object_of (piece_from g))))
    stage_spares (stage.Put g bytes) has listed =
        puts_spares g bytes (piece_to g) (write_answer (target_of s (object_of (piece_to g))) (object_of (piece_to g)).number g.copying.side.layout.generation) (put_made s.meta g next has.made.0)
    stage_spares (stage.Done key cleared left) has listed = ends_spares cleared left (copy_ends key cleared s.meta)

    merge_spares : (a : MergeStage) → Has k.client s.meta s.locks (merge_hand a) → IsCompared a → StepSpares s (merge_stage_at a k s)
    merge_spares (merge.Fence x place) has listed =
        merge_fences_spares x place (object_at (merge_fences x) place).object (fence_answer (target_of s (object_at (merge_fences x) place).object)) (merge_fence_made s.meta x place has.made.0 has.made.1.0 listed)
    merge_spares (merge.Settle x) has listed = merge_settles_spares x (first_writer s.locks k.client (merge_fences x)) (merge_settled x (size_of x.ours.file s.meta) (size_of x.theirs.file s.meta))
    merge_spares (merge.TakeOurs p) has listed = ours_spare p (our_piece p) (read_answer (target_of s (object_of (our_piece p))))
    merge_spares (merge.TakeTheirs p ours) has listed = theirs_spare p ours (their_piece p) (read_answer (target_of s (object_of (their_piece p))))
    merge_spares (merge.Done ours theirs refusal) has listed = done_spares ours theirs refusal

    -- the objects that are fenced, reset and put to were made
    pub copy_spares : (a : CopyAt) → Has k.client s.meta s.locks (copy_hand a) → IsListedAt a → StepSpares s (copy_at a k s)
    copy_spares at.Begin has listed = begins_spares (copy_begins k.client k.name k.what s.meta)
    copy_spares (at.Copy a) has listed = stage_spares a has listed
    copy_spares (at.Merge a) has listed = merge_spares a has listed
