-- A step leaves what its call was asked.
use Rattle.std.proofs.Common.{◌≡◌, ℕ, Bool, true, false, List, [], refl}
use Rattle.std.specs.Prelude.{Option, Some, None}
use Rattle.flr_base.specs.declared.reply.FailedCall.{FailedCall}
use Rattle.flr_base.specs.declared.reply.Left.{Left}
use Rattle.flr_base.specs.declared.reply.ObjectId.{ObjectId}
use Rattle.flr_base.specs.declared.reply.Range.{Range}
use Rattle.flr_base.specs.declared.reply.Reply.{Reply}
use Rattle.extent_lock.specs.Extents.{blocker}
use Rattle.layout_lease.specs.Leases.{KeyView}
use Rattle.meta_server.specs.Beginning as begin
use Rattle.meta_server.specs.Closing.{confirms, holds, is_there, size_of}
use Rattle.meta_server.specs.declared.answers.Begun.{Begun}
use Rattle.meta_server.specs.declared.answers.Begun.TheVariants as begun_as
use Rattle.meta_server.specs.declared.answers.Opened.{Opened}
use Rattle.meta_server.specs.Ending.{copy_ends, merge_ends}
use Rattle.meta_server.specs.Files.{File, file_named}
use Rattle.meta_server.specs.Opening.{cut_opens, write_opens}
use Rattle.meta_server.specs.Outcomes.{Ending, Ends, Breaks, Holds, Gives, Refuses, Waits}
use Rattle.meta_server.specs.Outcomes as meta
use Rattle.mirror_select.specs.declared.types.Piece.{Piece}
use Rattle.object_target.specs.Calls.{fence_answer, read_answer, reset_answer, write_answer}
use Rattle.object_target.specs.declared.call.CallAnswer.{CallAnswer}
use Rattle.object_target.specs.declared.call.CallAnswer.TheVariants as answer
use Rattle.call_steps.specs.Pieces.{object_of, piece_at}
use Rattle.call_steps.specs.Servers.{Servers}
use Rattle.call_steps.specs.Steps.{Outcome}
use Rattle.client_read.specs.declared.phase.ReadAt.{ReadAt}
use Rattle.client_read.specs.declared.phase.ReadAt.TheVariants as read_at
use Rattle.client_read.specs.declared.phase.Reading.{Reading}
use Rattle.client_read.specs.Reads as read
use Rattle.client_read.specs.Views.{ReadView}
use Rattle.client_write.specs.Calls.{TruncateView, WriteView}
use Rattle.client_write.specs.declared.phase.CutAt.{CutAt}
use Rattle.client_write.specs.declared.phase.CutAt.TheVariants as cut_at
use Rattle.client_write.specs.declared.phase.Sent.{Sent}
use Rattle.client_write.specs.declared.phase.WriteAt.{WriteAt}
use Rattle.client_write.specs.declared.phase.WriteAt.TheVariants as write_at
use Rattle.client_write.specs.Truncates as cut
use Rattle.client_write.specs.Views.{CuttingView, WritingView}
use Rattle.client_write.specs.Writes as write
use Rattle.mirror_verify.specs.Blocks as blocks
use Rattle.mirror_verify.specs.declared.phase.VerifyAt.{VerifyAt}
use Rattle.mirror_verify.specs.declared.phase.VerifyAt.TheVariants as verify_at
use Rattle.mirror_verify.specs.declared.phase.Verifying.{Verifying}
use Rattle.mirror_verify.specs.Verifies as verify
use Rattle.mirror_verify.specs.Views.{VerifyView}
use Rattle.resync_copy.specs.Calls.{CopyView}
use Rattle.resync_copy.specs.Comparing.{ComparingView, merge_fences}
use Rattle.resync_copy.specs.Copies as copies
use Rattle.resync_copy.specs.declared.merge_phase.MergeStage.{MergeStage}
use Rattle.resync_copy.specs.declared.merge_phase.MergeStage.TheVariants as merge
use Rattle.resync_copy.specs.declared.merge_phase.Pair.{Pair}
use Rattle.resync_copy.specs.declared.parts.CopyObject.{CopyObject}
use Rattle.resync_copy.specs.declared.phase.Chunk.{Chunk}
use Rattle.resync_copy.specs.declared.phase.CopyAt.{CopyAt}
use Rattle.resync_copy.specs.declared.phase.CopyAt.TheVariants as copying
use Rattle.resync_copy.specs.declared.phase.CopyStage.{CopyStage}
use Rattle.resync_copy.specs.declared.phase.CopyStage.TheVariants as stage
use Rattle.resync_copy.specs.Merges as merges
use Rattle.resync_copy.specs.Steps.{begins, copy_at}
use Rattle.resync_copy.specs.Views.{CopyingView, fences_of, resets_of}
use Rattle.flr_steps.specs.declared.client.Running.TheVariants as running
use Rattle.flr_steps.proofs.OwnSteps.{AllNext}
use Rattle.flr_asked.specs.Sentences.{at_start}

-- ---- reads

module _ (r : ReadView) (s : Servers) where
  abbrev ReadSame : Outcome ReadView → Type 0
  ReadSame o = AllNext (λ (x : ReadView). at_start (running.Read x) ≡ at_start (running.Read r)) o

  read_by_byte : (f : File) (o : Option ℕ) → ReadSame (read.shares_file r s f o)
  read_by_byte f (Some byte) = tt
  read_by_byte f None = refl

  read_by_file : (o : Option File) → ReadSame (read.opens_file r s o)
  read_by_file None = tt
  read_by_file (Some f) = read_by_byte f (read.unanswered f.layout r.range [])

  read_by_lock : (x : Reading) (next : ℕ) (o : Option (ℕ × Range)) → ReadSame (read.locks_piece r s x next o)
  read_by_lock x next (Some told) = tt
  read_by_lock x next None = refl

  read_by_answer : (x : Reading) (next : ℕ) (p : Piece) (a : CallAnswer) → ReadSame (read.takes_piece r s x next p a)
  read_by_answer x next p answer.Ok = refl
  read_by_answer x next p (answer.Old kept) = refl
  read_by_answer x next p answer.Failed = refl

  read_by_others : (x : Reading) (o : Option ℕ) → ReadSame (read.others_answer r s x o)
  read_by_others x (Some byte) = tt
  read_by_others x None = refl

  read_by_cookie : (x : Reading) (b : Bool) → ReadSame (read.looks_again r s x b)
  read_by_cookie x false = refl
  read_by_cookie x true = read_by_others x (read.unanswered x.opened.layout r.range (read.ids_of x.failed))

  read_by_size : (x : Reading) (o : Option ℕ) → ReadSame (read.confirms_read r s x o)
  read_by_size x None = refl
  read_by_size x (Some size) = refl

  pub read_same : (at : ReadAt) → ReadSame (read.read_at at r s)
  read_same read_at.Open = read_by_file (file_named r.name s.meta.files)
  read_same (read_at.Lock x next) = read_by_lock x next (blocker s.locks (read.lock_for r (piece_at x.pieces next)))
  read_same (read_at.Take x next) = read_by_answer x next (piece_at x.pieces next) (read_answer (read.target_of s (piece_at x.pieces next)))
  read_same (read_at.Again x) = read_by_cookie x (holds x.opened.file x.opened.cookie s.meta)
  read_same (read_at.Confirm x) = read_by_size x (confirms x.opened.file x.opened.cookie s.meta)
  read_same read_at.UnlockAgain = refl
  read_same read_at.Unlock = tt

-- ---- writes and truncates

module _ (w : WriteView) (place : ℕ) (s : Servers) where
  abbrev WriteSame : Outcome WriteView → Type 0
  WriteSame o = AllNext (λ (x : WriteView). at_start (running.Write x) ≡ at_start (running.Write w)) o

  write_by_open : (o : meta.Outcome Opened) → WriteSame (write.opens w s o)
  write_by_open (Gives given after) = refl
  write_by_open (Refuses reply) = tt
  write_by_open (Waits holder) = tt

  write_by_lock : (x : WritingView) (next : ℕ) (o : Option (ℕ × Range)) → WriteSame (write.locks_piece w s x next o)
  write_by_lock x next (Some told) = tt
  write_by_lock x next None = refl

  write_by_file : (x : WritingView) (end : ℕ) (came : Sent) (b : Bool) → WriteSame (write.commits_write w s x end came b)
  write_by_file x end came true = refl
  write_by_file x end came false = refl

  pub write_same : (at : WriteAt) → WriteSame (write.write_at at w place s)
  write_same write_at.Open = write_by_open (write_opens w.client w.name (write.range_of w) place s.meta)
  write_same (write_at.Lock x next) = write_by_lock x next (blocker s.locks (write.lock_for w (piece_at x.pieces next)))
  write_same (write_at.Send x next) = refl
  write_same (write_at.Commit x end came) = write_by_file x end came (is_there x.opened.file s.meta)
  write_same write_at.UnlockAgain = refl
  write_same write_at.Unlock = tt

module _ (t : TruncateView) (place : ℕ) (s : Servers) where
  abbrev CutSame : Outcome TruncateView → Type 0
  CutSame o = AllNext (λ (x : TruncateView). at_start (running.Truncate x) ≡ at_start (running.Truncate t)) o

  cut_by_open : (o : meta.Outcome Opened) → CutSame (cut.opens_cut t s o)
  cut_by_open (Gives given after) = refl
  cut_by_open (Refuses reply) = tt
  cut_by_open (Waits holder) = tt

  cut_by_lock : (x : CuttingView) (o : Option (ℕ × Range)) → CutSame (cut.locks_tails t s x o)
  cut_by_lock x (Some told) = tt
  cut_by_lock x None = refl

  cut_by_file : (x : CuttingView) (came : Sent) (b : Bool) → CutSame (cut.commits_cut t s x came b)
  cut_by_file x came true = refl
  cut_by_file x came false = refl

  pub cut_same : (at : CutAt) → CutSame (cut.truncate_at at t place s)
  cut_same cut_at.Open = cut_by_open (cut_opens t.client t.name t.size place s.meta)
  cut_same (cut_at.Lock x) = cut_by_lock x (cut.first_blocker (cut.locks_for t x) s.locks)
  cut_same (cut_at.Punch x next) = refl
  cut_same (cut_at.Commit x came) = cut_by_file x came (is_there x.opened.file s.meta)
  cut_same cut_at.UnlockAgain = refl
  cut_same cut_at.Unlock = tt

-- ---- verifies

module _ (v : VerifyView) (s : Servers) where
  abbrev VerifySame : Outcome VerifyView → Type 0
  VerifySame o = AllNext (λ (x : VerifyView). at_start (running.Verify x) ≡ at_start (running.Verify v)) o

  verify_by_file : (o : Option File) → VerifySame (verify.opens_file v s o)
  verify_by_file None = tt
  verify_by_file (Some f) = refl

  verify_by_answer : (x : Verifying) (next : ℕ) (p : Piece) (a : CallAnswer) → VerifySame (verify.takes_copy v s x next p a)
  verify_by_answer x next p answer.Ok = refl
  verify_by_answer x next p (answer.Old kept) = refl
  verify_by_answer x next p answer.Failed = refl

  verify_by_cookie : (x : Verifying) (fault : Option FailedCall) (b : Bool) → VerifySame (verify.closes v s x fault b)
  verify_by_cookie x fault false = refl
  verify_by_cookie x fault true = tt

  pub verify_same : (at : VerifyAt) → VerifySame (verify.verify_at at v s)
  verify_same verify_at.Open = verify_by_file (file_named v.name s.meta.files)
  verify_same (verify_at.Take x next) = verify_by_answer x next (blocks.copy_at x.copies next).piece (read_answer (verify.target_of s (blocks.copy_at x.copies next).piece))
  verify_same (verify_at.Close x fault) = verify_by_cookie x fault (holds x.opened.file x.opened.cookie s.meta)

-- ---- copies

module _ (k : CopyView) (s : Servers) where
  abbrev CopySame : Outcome CopyView → Type 0
  CopySame o = AllNext (λ (x : CopyView). at_start (running.Copy x) ≡ at_start (running.Copy k)) o

  fence_by_answer : (x : CopyingView) (next : ℕ) (o : CopyObject) → (a : CallAnswer) → CopySame (copies.fences_object k s x next o a)
  fence_by_answer x next o answer.Ok = refl
  fence_by_answer x next o (answer.Old kept) = refl
  fence_by_answer x next o answer.Failed = refl

  reset_by_answer : (x : CopyingView) (next : ℕ) (o : CopyObject) → (a : CallAnswer) → CopySame (copies.resets_object k s x next o a)
  reset_by_answer x next o answer.Ok = refl
  reset_by_answer x next o (answer.Old kept) = refl
  reset_by_answer x next o answer.Failed = refl

  settle_by_writer : (x : CopyingView) → (o : Option (ℕ × Range)) (size : Option ℕ) → CopySame (copies.settles k s x o size)
  settle_by_writer x (Some told) size = tt
  settle_by_writer x None size = refl

  take_by_answer : (h : Chunk) (p : Piece) → (a : CallAnswer) → CopySame (copies.takes_chunk k s h p a)
  take_by_answer h p answer.Ok = refl
  take_by_answer h p (answer.Old kept) = refl
  take_by_answer h p answer.Failed = refl

  put_by_answer : (h : Chunk) (bytes : List ℕ) (p : Piece) → (a : CallAnswer) → CopySame (copies.puts_chunk k s h bytes p a)
  put_by_answer h bytes p answer.Ok = refl
  put_by_answer h bytes p (answer.Old kept) = refl
  put_by_answer h bytes p answer.Failed = refl

  done_by_ending : (cleared : List ℕ) (left : List Left) (o : Ending (Unit {0})) → CopySame (copies.ends_copy k s cleared left o)
  done_by_ending cleared left (Ends done after) = tt
  done_by_ending cleared left (Breaks step after) = tt
  done_by_ending cleared left (Holds holder) = tt

  stage_same : (next : CopyStage) → CopySame (copies.stage_at next k s)
  stage_same (stage.Fence x next) = let o = copies.object_at (fences_of x) next in fence_by_answer x next o (fence_answer (copies.target_of s o.object))
  stage_same (stage.Reset x next) = let o = copies.object_at (resets_of x) next in reset_by_answer x next o (reset_answer (copies.target_of s o.object) o.object.number x.side.layout.generation)
  stage_same (stage.Settle x) = settle_by_writer x (copies.first_writer s.locks k.client (copies.settled_objects x)) (size_of x.side.file s.meta)
  stage_same (stage.Take h) = let p = copies.piece_from h in take_by_answer h p (read_answer (copies.target_of s (object_of p)))
  stage_same (stage.Put h bytes) = let p = copies.piece_to h in put_by_answer h bytes p (write_answer (copies.target_of s (object_of p)) (object_of p).number h.copying.side.layout.generation)
  stage_same (stage.Done key cleared left) = done_by_ending cleared left (copy_ends key cleared s.meta)

  merge_fence_by_answer : (x : ComparingView) (next : ℕ) (o : ObjectId) → (a : CallAnswer) → CopySame (merges.merge_fences_object k s x next o a)
  merge_fence_by_answer x next o answer.Ok = refl
  merge_fence_by_answer x next o (answer.Old kept) = refl
  merge_fence_by_answer x next o answer.Failed = refl

  merge_settle_by_writer : (x : ComparingView) (next : MergeStage) → (o : Option (ℕ × Range)) → CopySame (merges.merge_settles k s x o next)
  merge_settle_by_writer x next (Some told) = tt
  merge_settle_by_writer x next None = refl

  our_take_by_answer : (p : Pair) (q : Piece) → (a : CallAnswer) → CopySame (merges.takes_ours k s p q a)
  our_take_by_answer p q answer.Ok = refl
  our_take_by_answer p q (answer.Old kept) = refl
  our_take_by_answer p q answer.Failed = refl

  their_take_by_answer : (p : Pair) (ours : Option (List ℕ)) (q : Piece) → (a : CallAnswer) → CopySame (merges.takes_theirs k s p ours q a)
  their_take_by_answer p ours q answer.Ok = refl
  their_take_by_answer p ours q (answer.Old kept) = refl
  their_take_by_answer p ours q answer.Failed = refl

  merged_by_ending : (o : Ending (List ℕ)) → CopySame (merges.ends_merge k s o)
  merged_by_ending (Ends ids after) = tt
  merged_by_ending (Breaks step after) = tt
  merged_by_ending (Holds holder) = tt

  merged_by_refusal : (ours theirs : KeyView) (refusal : Option Reply) → CopySame (merges.merge_ends_with k s ours theirs refusal)
  merged_by_refusal ours theirs (Some kept) = tt
  merged_by_refusal ours theirs None = merged_by_ending (merge_ends ours theirs s.meta)

  merge_stage_same : (next : MergeStage) → CopySame (merges.merge_stage_at next k s)
  merge_stage_same (merge.Fence x next) = let o = (copies.object_at (merge_fences x) next).object in merge_fence_by_answer x next o (fence_answer (copies.target_of s o))
  merge_stage_same (merge.Settle x) =
      let next = merges.merge_settled x (size_of x.ours.file s.meta) (size_of x.theirs.file s.meta) in
      merge_settle_by_writer x next (copies.first_writer s.locks k.client (merge_fences x))
  merge_stage_same (merge.TakeOurs p) = let q = merges.our_piece p in our_take_by_answer p q (read_answer (copies.target_of s (object_of q)))
  merge_stage_same (merge.TakeTheirs p ours) = let q = merges.their_piece p in their_take_by_answer p ours q (read_answer (copies.target_of s (object_of q)))
  merge_stage_same (merge.Done ours theirs refusal) = merged_by_refusal ours theirs refusal

  begin_by_outcome : (o : meta.Outcome Begun) → CopySame (begins k s o)
  begin_by_outcome (Gives begun_as.Nothing after) = tt
  begin_by_outcome (Gives (begun_as.Copy side ids) after) = refl
  begin_by_outcome (Gives (begun_as.Merge ours theirs) after) = refl
  begin_by_outcome (Refuses refusal) = tt
  begin_by_outcome (Waits holder) = tt

  pub copy_same : (at : CopyAt) → CopySame (copy_at at k s)
  copy_same copying.Begin = begin_by_outcome (begin.copy_begins k.client k.name k.what s.meta)
  copy_same (copying.Copy next) = stage_same next
  copy_same (copying.Merge next) = merge_stage_same next
