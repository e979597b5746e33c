-- The steps of resyncs and of extends.
use Rattle.std.proofs.Common.{◌≡◌, ℕ, false, Option, Some, None, List, length, refl, sym, ap}
use Rattle.flr_base.specs.declared.reply.Left.{Left}
use Rattle.flr_base.specs.declared.reply.ObjectId.{ObjectId}
use Rattle.flr_base.specs.declared.reply.Range.{Range}
use Rattle.flr_base.specs.declared.reply.Reply.{Reply}
use Rattle.layout_lease.specs.Leases.{KeyView}
use Rattle.mirror_select.specs.declared.types.Piece.{Piece}
use Rattle.object_target.specs.declared.call.CallAnswer.{CallAnswer}
use Rattle.object_target.specs.declared.call.CallAnswer.TheVariants as answer
use Rattle.object_target.specs.Calls.{after_fence, after_read, after_reset, after_write, fence_answer, read_answer, reset_answer, write_answer}
use Rattle.meta_server.specs.declared.answers.Begun.{Begun}
use Rattle.meta_server.specs.declared.answers.Begun.TheVariants as begun_as
use Rattle.meta_server.specs.Beginning.{copy_begins}
use Rattle.meta_server.specs.Closing.{size_of}
use Rattle.meta_server.specs.Ending.{copy_ends, merge_ends}
use Rattle.meta_server.specs.Outcomes.{Breaks, Ending, Ends, Gives, Holds, Refuses, Waits}
use Rattle.meta_server.specs.Outcomes as meta
use Rattle.meta_laws.specs.Calls.{BeginCopy, CopyDone, MergeDone, left_at, left_by}
use Rattle.meta_growth.specs.Growth.{stripes_of_what}
use Rattle.call_steps.specs.Pieces.{length_of, object_of}
use Rattle.call_steps.specs.Servers.{Servers}
use Rattle.resync_copy.specs.declared.merge_phase.MergeStage.{MergeStage}
use Rattle.resync_copy.specs.declared.merge_phase.MergeStage.TheVariants as merge
use Rattle.resync_copy.specs.declared.merge_phase.Pair.{Pair}
use Rattle.resync_copy.specs.declared.parts.CopyObject.{CopyObject}
use Rattle.resync_copy.specs.declared.phase.Chunk.{Chunk}
use Rattle.resync_copy.specs.declared.phase.CopyAt.{CopyAt}
use Rattle.resync_copy.specs.declared.phase.CopyAt.TheVariants as at
use Rattle.resync_copy.specs.declared.phase.CopyStage.{CopyStage}
use Rattle.resync_copy.specs.declared.phase.CopyStage.TheVariants as stage
use Rattle.resync_copy.specs.Calls.{CopyView}
use Rattle.resync_copy.specs.Comparing.{ComparingView, merge_fences, version_at}
use Rattle.resync_copy.specs.Copies.{ends_copy, emptied, fenced, fences_object, first_writer, object_at, piece_from, piece_put, piece_read, piece_to, puts_chunk, resets_object, settled_objects, settles, stage_at, takes_chunk, target_of}
use Rattle.resync_copy.specs.Merges.{ends_merge, merge_ends_with, merge_fenced, merge_fences_object, merge_settled, merge_settles, merge_stage_at, our_piece, takes_ours, takes_theirs, their_piece}
use Rattle.resync_copy.specs.Steps.{begins, copy_at, copy_step}
use Rattle.resync_copy.specs.Views.{CopyingView, fences_of, resets_of}
use Rattle.flr_steps.specs.Traces.{copy_begins as is_begin}
use Rattle.flr_honest.proofs.OnlyAnswers.Rising.Outcomes.{Does, OnLeft, OnNext, called, called_meta, given_keys, unchanged}

-- the stripes that the step of a copy makes: those of the mirrors that come, where it begins
abbrev pub stripes_at : ℕ → CopyView → CopyAt → ℕ
stripes_at targets c at.Begin = stripes_of_what targets c.what
stripes_at targets c (at.Copy next) = 0
stripes_at targets c (at.Merge next) = 0

-- the call is past its begin
abbrev pub IsPast : CopyView → Type 0
IsPast c = is_begin c.at ≡ false

module _ (c : CopyView) (s : Servers) where
  -- ---- begin

  begun_by : (o : meta.Outcome Begun) → copy_begins c.client c.name c.what s.meta ≡ o → OnLeft (Does (stripes_of_what (length s.meta.nexts) c.what) s) (begins c s o)
  begun_by (Gives begun_as.Nothing after) e = called_meta s (BeginCopy c.client c.name c.what) after s.locks (sym (ap (λ (o : meta.Outcome Begun). left_by o s.meta) e))
  begun_by (Gives (begun_as.Copy side ids) after) e = called_meta s (BeginCopy c.client c.name c.what) after s.locks (sym (ap (λ (o : meta.Outcome Begun). left_by o s.meta) e))
  begun_by (Gives (begun_as.Merge ours theirs) after) e = called_meta s (BeginCopy c.client c.name c.what) after s.locks (sym (ap (λ (o : meta.Outcome Begun). left_by o s.meta) e))
  begun_by (Refuses refusal) e = unchanged s (stripes_of_what (length s.meta.nexts) c.what) s.locks
  begun_by (Waits holder) e = tt

  begun_next : (o : meta.Outcome Begun) → OnNext IsPast (begins c s o)
  begun_next (Gives begun_as.Nothing after) = tt
  begun_next (Gives (begun_as.Copy side ids) after) = refl
  begun_next (Gives (begun_as.Merge ours theirs) after) = refl
  begun_next (Refuses refusal) = tt
  begun_next (Waits holder) = tt

  -- ---- a copy

  fence_call : (x : CopyingView) (o : ObjectId) → Does 0 s (fenced s x o)
  fence_call x o = called s o.target (after_fence (target_of s o) o.number x.side.layout.generation) _ refl refl

  fences : (x : CopyingView) (next : ℕ) (o : CopyObject) (a : CallAnswer) → OnLeft (Does 0 s) (fences_object c s x next o a)
  fences x next o answer.Ok = fence_call x o.object
  fences x next o (answer.Old kept) = fence_call x o.object
  fences x next o answer.Failed = fence_call x o.object

  fences_next : (x : CopyingView) (next : ℕ) (o : CopyObject) (a : CallAnswer) → OnNext IsPast (fences_object c s x next o a)
  fences_next x next o answer.Ok = refl
  fences_next x next o (answer.Old kept) = refl
  fences_next x next o answer.Failed = refl

  reset_call : (x : CopyingView) (o : ObjectId) → Does 0 s (emptied s x o)
  reset_call x o = called s o.target (after_reset (target_of s o) o.number x.side.layout.generation) _ refl refl

  resets : (x : CopyingView) (next : ℕ) (o : CopyObject) (a : CallAnswer) → OnLeft (Does 0 s) (resets_object c s x next o a)
  resets x next o answer.Ok = reset_call x o.object
  resets x next o (answer.Old kept) = reset_call x o.object
  resets x next o answer.Failed = reset_call x o.object

  resets_next : (x : CopyingView) (next : ℕ) (o : CopyObject) (a : CallAnswer) → OnNext IsPast (resets_object c s x next o a)
  resets_next x next o answer.Ok = refl
  resets_next x next o (answer.Old kept) = refl
  resets_next x next o answer.Failed = refl

  settling : (x : CopyingView) (o : Option (ℕ × Range)) (size : Option ℕ) → OnLeft (Does 0 s) (settles c s x o size)
  settling x (Some told) size = tt
  settling x None size = unchanged s 0 s.locks

  settling_next : (x : CopyingView) (o : Option (ℕ × Range)) (size : Option ℕ) → OnNext IsPast (settles c s x o size)
  settling_next x (Some told) size = tt
  settling_next x None size = refl

  read_call : (p : Piece) → Does 0 s (piece_read s p)
  read_call p = called s (object_of p).target (after_read (target_of s (object_of p)) (object_of p).number p.offset (length_of p)) _ refl refl

  takes : (h : Chunk) (p : Piece) (a : CallAnswer) → OnLeft (Does 0 s) (takes_chunk c s h p a)
  takes h p answer.Ok = read_call p
  takes h p (answer.Old kept) = read_call p
  takes h p answer.Failed = read_call p

  takes_next : (h : Chunk) (p : Piece) (a : CallAnswer) → OnNext IsPast (takes_chunk c s h p a)
  takes_next h p answer.Ok = refl
  takes_next h p (answer.Old kept) = refl
  takes_next h p answer.Failed = refl

  put_call : (h : Chunk) (p : Piece) (bytes : List ℕ) → Does 0 s (piece_put s h p bytes)
  put_call h p bytes = called s (object_of p).target (after_write (target_of s (object_of p)) (object_of p).number p.offset bytes h.copying.side.layout.generation) _ refl refl

  puts : (h : Chunk) (bytes : List ℕ) (p : Piece) (a : CallAnswer) → OnLeft (Does 0 s) (puts_chunk c s h bytes p a)
  puts h bytes p answer.Ok = put_call h p bytes
  puts h bytes p (answer.Old kept) = put_call h p bytes
  puts h bytes p answer.Failed = put_call h p bytes

  puts_next : (h : Chunk) (bytes : List ℕ) (p : Piece) (a : CallAnswer) → OnNext IsPast (puts_chunk c s h bytes p a)
  puts_next h bytes p answer.Ok = refl
  puts_next h bytes p (answer.Old kept) = refl
  puts_next h bytes p answer.Failed = refl

  ends : (key : KeyView) (cleared : List ℕ) (left : List Left) (o : Ending (Unit {0})) → copy_ends key cleared s.meta ≡ o → OnLeft (Does 0 s) (ends_copy c s cleared left o)
  ends key cleared left (Ends done after) e = called_meta s (CopyDone key cleared) after s.locks (sym (ap (λ (o : Ending (Unit {0})). left_at o s.meta) e))
  ends key cleared left (Breaks step after) e = called_meta s (CopyDone key cleared) after s.locks (sym (ap (λ (o : Ending (Unit {0})). left_at o s.meta) e))
  ends key cleared left (Holds holder) e = tt

  ends_next : (cleared : List ℕ) (left : List Left) (o : Ending (Unit {0})) → OnNext IsPast (ends_copy c s cleared left o)
  ends_next cleared left (Ends done after) = tt
  ends_next cleared left (Breaks step after) = tt
  ends_next cleared left (Holds holder) = tt

  by_stage : (next : CopyStage) → OnLeft (Does 0 s) (stage_at next c s)
  by_stage (stage.Fence x next) = fences x next (object_at (fences_of x) next) (fence_answer (target_of s (object_at (fences_of x) next).object))
  by_stage (stage.Reset x next) = resets x next (object_at (resets_of x) next) (reset_answer (target_of s (object_at (resets_of x) next).object) (object_at (resets_of x) next).object.number x.side.layout.generation)
  by_stage (stage.Settle x) = settling x (first_writer s.locks c.client (settled_objects x)) (size_of x.side.file s.meta)
  by_stage (stage.Take h) = takes h (piece_from h) (read_answer (target_of s (object_of (piece_from h))))
  by_stage (stage.Put h bytes) = puts h bytes (piece_to h) (write_answer (target_of s (object_of (piece_to h))) (object_of (piece_to h)).number h.copying.side.layout.generation)
  by_stage (stage.Done key cleared left) = ends key cleared left (copy_ends key cleared s.meta) refl

  stage_next : (next : CopyStage) → OnNext IsPast (stage_at next c s)
  stage_next (stage.Fence x next) = fences_next x next (object_at (fences_of x) next) (fence_answer (target_of s (object_at (fences_of x) next).object))
  stage_next (stage.Reset x next) = resets_next x next (object_at (resets_of x) next) (reset_answer (target_of s (object_at (resets_of x) next).object) (object_at (resets_of x) next).object.number x.side.layout.generation)
  stage_next (stage.Settle x) = settling_next x (first_writer s.locks c.client (settled_objects x)) (size_of x.side.file s.meta)
  stage_next (stage.Take h) = takes_next h (piece_from h) (read_answer (target_of s (object_of (piece_from h))))
  stage_next (stage.Put h bytes) = puts_next h bytes (piece_to h) (write_answer (target_of s (object_of (piece_to h))) (object_of (piece_to h)).number h.copying.side.layout.generation)
  stage_next (stage.Done key cleared left) = ends_next cleared left (copy_ends key cleared s.meta)

  -- ---- a file is taken in

  merge_call : (o : ObjectId) (version : ℕ) → Does 0 s (merge_fenced s o version)
  merge_call o version = called s o.target (after_fence (target_of s o) o.number version) _ refl refl

  merge_fencing : (x : ComparingView) (next : ℕ) (o : ObjectId) (a : CallAnswer) → OnLeft (Does 0 s) (merge_fences_object c s x next o a)
  merge_fencing x next o answer.Ok = merge_call o (version_at x next)
  merge_fencing x next o (answer.Old kept) = merge_call o (version_at x next)
  merge_fencing x next o answer.Failed = merge_call o (version_at x next)

  merge_fencing_next : (x : ComparingView) (next : ℕ) (o : ObjectId) (a : CallAnswer) → OnNext IsPast (merge_fences_object c s x next o a)
  merge_fencing_next x next o answer.Ok = refl
  merge_fencing_next x next o (answer.Old kept) = refl
  merge_fencing_next x next o answer.Failed = refl

  merge_settling : (x : ComparingView) (o : Option (ℕ × Range)) (next : MergeStage) → OnLeft (Does 0 s) (merge_settles c s x o next)
  merge_settling x (Some told) next = tt
  merge_settling x None next = unchanged s 0 s.locks

  merge_settling_next : (x : ComparingView) (o : Option (ℕ × Range)) (next : MergeStage) → OnNext IsPast (merge_settles c s x o next)
  merge_settling_next x (Some told) next = tt
  merge_settling_next x None next = refl

  taking_ours : (p : Pair) (q : Piece) (a : CallAnswer) → OnLeft (Does 0 s) (takes_ours c s p q a)
  taking_ours p q answer.Ok = read_call q
  taking_ours p q (answer.Old kept) = read_call q
  taking_ours p q answer.Failed = read_call q

  taking_ours_next : (p : Pair) (q : Piece) (a : CallAnswer) → OnNext IsPast (takes_ours c s p q a)
  taking_ours_next p q answer.Ok = refl
  taking_ours_next p q (answer.Old kept) = refl
  taking_ours_next p q answer.Failed = refl

  taking_theirs : (p : Pair) (ours : Option (List ℕ)) (q : Piece) (a : CallAnswer) → OnLeft (Does 0 s) (takes_theirs c s p ours q a)
  taking_theirs p ours q answer.Ok = read_call q
  taking_theirs p ours q (answer.Old kept) = read_call q
  taking_theirs p ours q answer.Failed = read_call q

  taking_theirs_next : (p : Pair) (ours : Option (List ℕ)) (q : Piece) (a : CallAnswer) → OnNext IsPast (takes_theirs c s p ours q a)
  taking_theirs_next p ours q answer.Ok = refl
  taking_theirs_next p ours q (answer.Old kept) = refl
  taking_theirs_next p ours q answer.Failed = refl

  merge_ending : (ours theirs : KeyView) (o : Ending (List ℕ)) → merge_ends ours theirs s.meta ≡ o → OnLeft (Does 0 s) (ends_merge c s o)
  merge_ending ours theirs (Ends ids after) e = called_meta s (MergeDone ours theirs) after s.locks (sym (ap (λ (o : Ending (List ℕ)). left_at o s.meta) e))
  merge_ending ours theirs (Breaks step after) e = called_meta s (MergeDone ours theirs) after s.locks (sym (ap (λ (o : Ending (List ℕ)). left_at o s.meta) e))
  merge_ending ours theirs (Holds holder) e = tt

  merge_ending_next : (o : Ending (List ℕ)) → OnNext IsPast (ends_merge c s o)
  merge_ending_next (Ends ids after) = tt
  merge_ending_next (Breaks step after) = tt
  merge_ending_next (Holds holder) = tt

  merge_done : (ours theirs : KeyView) (refusal : Option Reply) → OnLeft (Does 0 s) (merge_ends_with c s ours theirs refusal)
  merge_done ours theirs (Some kept) = given_keys s ours theirs
  merge_done ours theirs None = merge_ending ours theirs (merge_ends ours theirs s.meta) refl

  merge_done_next : (ours theirs : KeyView) (refusal : Option Reply) → OnNext IsPast (merge_ends_with c s ours theirs refusal)
  merge_done_next ours theirs (Some kept) = tt
  merge_done_next ours theirs None = merge_ending_next (merge_ends ours theirs s.meta)

  by_merge : (next : MergeStage) → OnLeft (Does 0 s) (merge_stage_at next c s)
  by_merge (merge.Fence x next) = merge_fencing x next (object_at (merge_fences x) next).object (fence_answer (target_of s (object_at (merge_fences x) next).object))
  by_merge (merge.Settle x) = merge_settling x (first_writer s.locks c.client (merge_fences x)) (merge_settled x (size_of x.ours.file s.meta) (size_of x.theirs.file s.meta))
  by_merge (merge.TakeOurs p) = taking_ours p (our_piece p) (read_answer (target_of s (object_of (our_piece p))))
  by_merge (merge.TakeTheirs p ours) = taking_theirs p ours (their_piece p) (read_answer (target_of s (object_of (their_piece p))))
  by_merge (merge.Done ours theirs refusal) = merge_done ours theirs refusal

  merge_next : (next : MergeStage) → OnNext IsPast (merge_stage_at next c s)
  merge_next (merge.Fence x next) = merge_fencing_next x next (object_at (merge_fences x) next).object (fence_answer (target_of s (object_at (merge_fences x) next).object))
  merge_next (merge.Settle x) = merge_settling_next x (first_writer s.locks c.client (merge_fences x)) (merge_settled x (size_of x.ours.file s.meta) (size_of x.theirs.file s.meta))
  merge_next (merge.TakeOurs p) = taking_ours_next p (our_piece p) (read_answer (target_of s (object_of (our_piece p))))
  merge_next (merge.TakeTheirs p ours) = taking_theirs_next p ours (their_piece p) (read_answer (target_of s (object_of (their_piece p))))
  merge_next (merge.Done ours theirs refusal) = merge_done_next ours theirs refusal

  -- ---- each step

  by_phase : (at : CopyAt) → OnLeft (Does (stripes_at (length s.meta.nexts) c at) s) (copy_at at c s)
  by_phase at.Begin = begun_by (copy_begins c.client c.name c.what s.meta) refl
  by_phase (at.Copy next) = by_stage next
  by_phase (at.Merge next) = by_merge next

  phase_next : (at : CopyAt) → OnNext IsPast (copy_at at c s)
  phase_next at.Begin = begun_next (copy_begins c.client c.name c.what s.meta)
  phase_next (at.Copy next) = stage_next next
  phase_next (at.Merge next) = merge_next next

pub copy_does : (c : CopyView) (place : ℕ) (s : Servers) → OnLeft (Does (stripes_at (length s.meta.nexts) c c.at) s) (copy_step c place s)
copy_does c place s = by_phase c s c.at

-- a copy that goes on is past its begin
pub copy_past : (c : CopyView) (place : ℕ) (s : Servers) → OnNext IsPast (copy_step c place s)
copy_past c place s = phase_next c s c.at
