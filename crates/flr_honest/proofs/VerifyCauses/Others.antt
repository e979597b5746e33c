-- Steps of reads, writes, truncates and copies have no answer of a verify that compared its file.
use Rattle.std.proofs.Common.{ℕ, Bool, true, false, Option, Some, None, List, []}
use Rattle.flr_base.specs.declared.reply.Left.{Left}
use Rattle.flr_base.specs.declared.reply.ObjectId.{ObjectId}
use Rattle.flr_base.specs.declared.reply.Range.{Range}
use Rattle.flr_base.specs.declared.reply.Reply.{Reply}
use Rattle.flr_base.specs.declared.reply.Reply.TheVariants as reply
use Rattle.extent_lock.specs.Extents.{blocker}
use Rattle.layout_lease.specs.declared.lease.KeyState.{KeyState}
use Rattle.layout_lease.specs.declared.lease.KeyState.TheVariants.{Held, Broken}
use Rattle.layout_lease.specs.Leases.{KeyView, state_of}
use Rattle.mirror_select.specs.declared.types.Piece.{Piece}
use Rattle.object_target.specs.declared.call.CallAnswer.{CallAnswer}
use Rattle.object_target.specs.declared.call.CallAnswer.TheVariants as answer
use Rattle.object_target.specs.Calls.{fence_answer, read_answer, reset_answer, write_answer}
use Rattle.meta_server.specs.Closing.{confirms, holds, is_there, size_of}
use Rattle.meta_server.specs.Ending.{copy_ends, merge_ends}
use Rattle.meta_server.specs.declared.answers.Begun.{Begun}
use Rattle.meta_server.specs.declared.answers.Begun.TheVariants as begun_as
use Rattle.meta_server.specs.declared.answers.Opened.{Opened}
use Rattle.meta_server.specs.Beginning as beginning
use Rattle.meta_server.specs.Files.{File, file_named}
use Rattle.meta_server.specs.Opening as opening
use Rattle.meta_server.specs.Outcomes.{Breaks, Ending, Ends, Gives, Holds, Refuses, Waits}
use Rattle.meta_server.specs.Outcomes as meta
use Rattle.call_steps.specs.Pieces.{object_of, piece_at}
use Rattle.call_steps.specs.Servers.{Servers}
use Rattle.client_read.specs.declared.phase.ReadAt.{ReadAt}
use Rattle.client_read.specs.declared.phase.ReadAt.TheVariants as read
use Rattle.client_read.specs.declared.phase.Reading.{Reading}
use Rattle.client_read.specs.Reads.{confirms_read, ids_of, looks_again, opens_file, others_answer, read_at, shares_file, unanswered}
use Rattle.client_read.specs.Reads as reads
use Rattle.client_read.specs.Views.{ReadView}
use Rattle.client_write.specs.declared.phase.CutAt.{CutAt}
use Rattle.client_write.specs.declared.phase.CutAt.TheVariants as cut
use Rattle.client_write.specs.declared.phase.Sent.{Sent}
use Rattle.client_write.specs.declared.phase.Sent.TheVariants as sent
use Rattle.client_write.specs.declared.phase.WriteAt.{WriteAt}
use Rattle.client_write.specs.declared.phase.WriteAt.TheVariants as write
use Rattle.client_write.specs.Calls.{TruncateView, WriteView}
use Rattle.client_write.specs.Truncates.{commits_cut, cut_reply, first_blocker, locks_for, locks_tails, opens_cut, truncate_at}
use Rattle.client_write.specs.Views.{CuttingView, WritingView}
use Rattle.client_write.specs.Writes as writes
use Rattle.client_write.specs.Writes.{commits_write, opens, range_of, write_at}
use Rattle.resync_copy.specs.declared.merge_phase.MergeStage.{MergeStage}
use Rattle.resync_copy.specs.declared.merge_phase.MergeStage.TheVariants as merge
use Rattle.resync_copy.specs.declared.merge_phase.Pair.{Pair}
use Rattle.resync_copy.specs.declared.parts.CopyObject.{CopyObject}
use Rattle.resync_copy.specs.declared.phase.Chunk.{Chunk}
use Rattle.resync_copy.specs.declared.phase.CopyAt.{CopyAt}
use Rattle.resync_copy.specs.declared.phase.CopyAt.TheVariants as copy
use Rattle.resync_copy.specs.declared.phase.CopyStage.{CopyStage}
use Rattle.resync_copy.specs.declared.phase.CopyStage.TheVariants as stage
use Rattle.resync_copy.specs.Calls.{CopyView}
use Rattle.resync_copy.specs.Comparing.{ComparingView, merge_fences}
use Rattle.resync_copy.specs.Copies.{ends_copy, fences_object, first_writer, object_at, piece_from, piece_to, puts_chunk, resets_object, settled_objects, settles, stage_at, takes_chunk, target_of}
use Rattle.resync_copy.specs.Merges.{ends_merge, kept_answer, merge_ends_with, merge_fences_object, merge_settled, merge_settles, merge_stage_at, our_piece, takes_ours, takes_theirs, their_piece}
use Rattle.resync_copy.specs.Steps.{begins, copy_at}
use Rattle.resync_copy.specs.Views.{CopyingView, fences_of, resets_of}
use Rattle.flr_honest.proofs.VerifyCauses.Refusing.{ComparesNone, RefusesPlainly, begin_plain, cut_plain, write_plain}
use Rattle.flr_honest.specs.Legal.Sentences.{IfFixed, Keeps, KeepsAt, TellsOfBoth}

-- ---- reads

module _ (r : ReadView) (s : Servers) where
  shares : (f : File) (o : Option ℕ) → IfFixed ComparesNone (shares_file r s f o)
  shares f (Some byte) = tt
  shares f None = tt

  read_opened : (o : Option File) → IfFixed ComparesNone (opens_file r s o)
  read_opened None = tt
  read_opened (Some f) = shares f (unanswered f.layout r.range [])

  read_locks : (x : Reading) (next : ℕ) (b : Option (ℕ × Range)) → IfFixed ComparesNone (reads.locks_piece r s x next b)
  read_locks x next (Some told) = tt
  read_locks x next None = tt

  read_takes : (x : Reading) (next : ℕ) (p : Piece) (a : CallAnswer) → IfFixed ComparesNone (reads.takes_piece r s x next p a)
  read_takes x next p answer.Ok = tt
  read_takes x next p (answer.Old kept) = tt
  read_takes x next p answer.Failed = tt

  others : (x : Reading) (o : Option ℕ) → IfFixed ComparesNone (others_answer r s x o)
  others x (Some byte) = tt
  others x None = tt

  again : (x : Reading) (b : Bool) → IfFixed ComparesNone (looks_again r s x b)
  again x false = tt
  again x true = others x (unanswered x.opened.layout r.range (ids_of x.failed))

  confirm : (x : Reading) (o : Option ℕ) → IfFixed ComparesNone (confirms_read r s x o)
  confirm x None = tt
  confirm x (Some size) = tt

  pub read_none : (a : ReadAt) → IfFixed ComparesNone (read_at a r s)
  read_none read.Open = read_opened (file_named r.name s.meta.files)
  read_none (read.Lock x next) = read_locks x next (blocker s.locks (reads.lock_for r (piece_at x.pieces next)))
  read_none (read.Take x next) = read_takes x next (piece_at x.pieces next) (read_answer (reads.target_of s (piece_at x.pieces next)))
  read_none (read.Again x) = again x (holds x.opened.file x.opened.cookie s.meta)
  read_none (read.Confirm x) = confirm x (confirms x.opened.file x.opened.cookie s.meta)
  read_none read.UnlockAgain = tt
  read_none read.Unlock = tt

-- ---- writes

module _ (w : WriteView) (s : Servers) where
  write_opened : (o : meta.Outcome Opened) → RefusesPlainly o → IfFixed ComparesNone (opens w s o)
  write_opened (Gives o after) k = tt
  write_opened (Refuses answer) k = k
  write_opened (Waits holder) k = tt

  write_locks : (x : WritingView) (next : ℕ) (b : Option (ℕ × Range)) → IfFixed ComparesNone (writes.locks_piece w s x next b)
  write_locks x next (Some told) = tt
  write_locks x next None = tt

  write_answers : (came : Sent) → ComparesNone (writes.reply_of came)
  write_answers sent.All = tt
  write_answers (sent.Failed accepted call) = tt
  write_answers (sent.Old accepted step) = tt

  write_commits : (x : WritingView) (end : ℕ) (came : Sent) (b : Bool) → IfFixed ComparesNone (commits_write w s x end came b)
  write_commits x end came true = write_answers came
  write_commits x end came false = tt

  pub write_none : (a : WriteAt) (place : ℕ) → IfFixed ComparesNone (write_at a w place s)
  write_none write.Open place = write_opened (opening.write_opens w.client w.name (range_of w) place s.meta) (write_plain w.client w.name (range_of w) place s.meta)
  write_none (write.Lock x next) place = write_locks x next (blocker s.locks (writes.lock_for w (piece_at x.pieces next)))
  write_none (write.Send x next) place = tt
  write_none (write.Commit x end came) place = write_commits x end came (is_there x.opened.file s.meta)
  write_none write.UnlockAgain place = tt
  write_none write.Unlock place = tt

-- ---- truncates

module _ (t : TruncateView) (s : Servers) where
  cut_opened : (o : meta.Outcome Opened) → RefusesPlainly o → IfFixed ComparesNone (opens_cut t s o)
  cut_opened (Gives o after) k = tt
  cut_opened (Refuses answer) k = k
  cut_opened (Waits holder) k = tt

  cut_locks : (x : CuttingView) (b : Option (ℕ × Range)) → IfFixed ComparesNone (locks_tails t s x b)
  cut_locks x (Some told) = tt
  cut_locks x None = tt

  cut_answers : (came : Sent) → ComparesNone (cut_reply came)
  cut_answers sent.All = tt
  cut_answers (sent.Failed accepted call) = tt
  cut_answers (sent.Old accepted step) = tt

  cut_commits : (x : CuttingView) (came : Sent) (b : Bool) → IfFixed ComparesNone (commits_cut t s x came b)
  cut_commits x came true = cut_answers came
  cut_commits x came false = tt

  pub cut_none : (a : CutAt) (place : ℕ) → IfFixed ComparesNone (truncate_at a t place s)
  cut_none cut.Open place = cut_opened (opening.cut_opens t.client t.name t.size place s.meta) (cut_plain t.client t.name t.size place s.meta)
  cut_none (cut.Lock x) place = cut_locks x (first_blocker (locks_for t x) s.locks)
  cut_none (cut.Punch x next) place = tt
  cut_none (cut.Commit x came) place = cut_commits x came (is_there x.opened.file s.meta)
  cut_none cut.UnlockAgain place = tt
  cut_none cut.Unlock place = tt

-- ---- copies

-- what a merge keeps for its last step is no comparison
abbrev pub KeepsNone : CopyAt → Type 0
KeepsNone copy.Begin = Unit {0}
KeepsNone (copy.Copy next) = Unit {0}
KeepsNone (copy.Merge next) = KeepsAt next

module _ (c : CopyView) (s : Servers) where
  begun_by : (o : meta.Outcome Begun) → RefusesPlainly o → IfFixed ComparesNone (begins c s o)
  begun_by (Gives begun_as.Nothing after) k = tt
  begun_by (Gives (begun_as.Copy side ids) after) k = tt
  begun_by (Gives (begun_as.Merge ours theirs) after) k = tt
  begun_by (Refuses refusal) k = k
  begun_by (Waits holder) k = tt

  fences : (x : CopyingView) (next : ℕ) (o : CopyObject) (a : CallAnswer) → IfFixed ComparesNone (fences_object c s x next o a)
  fences x next o answer.Ok = tt
  fences x next o (answer.Old kept) = tt
  fences x next o answer.Failed = tt

  resets : (x : CopyingView) (next : ℕ) (o : CopyObject) (a : CallAnswer) → IfFixed ComparesNone (resets_object c s x next o a)
  resets x next o answer.Ok = tt
  resets x next o (answer.Old kept) = tt
  resets x next o answer.Failed = tt

  settling : (x : CopyingView) (o : Option (ℕ × Range)) (size : Option ℕ) → IfFixed ComparesNone (settles c s x o size)
  settling x (Some told) size = tt
  settling x None size = tt

  takes : (t : Chunk) (p : Piece) (a : CallAnswer) → IfFixed ComparesNone (takes_chunk c s t p a)
  takes t p answer.Ok = tt
  takes t p (answer.Old kept) = tt
  takes t p answer.Failed = tt

  puts : (t : Chunk) (bytes : List ℕ) (p : Piece) (a : CallAnswer) → IfFixed ComparesNone (puts_chunk c s t bytes p a)
  puts t bytes p answer.Ok = tt
  puts t bytes p (answer.Old kept) = tt
  puts t bytes p answer.Failed = tt

  ends : (cleared : List ℕ) (left : List Left) (o : Ending (Unit {0})) → IfFixed ComparesNone (ends_copy c s cleared left o)
  ends cleared left (Ends done after) = tt
  ends cleared left (Breaks step after) = tt
  ends cleared left (Holds holder) = tt

  by_stage : (next : CopyStage) → IfFixed ComparesNone (stage_at next c s)
  by_stage (stage.Fence x next) = fences x next (object_at (fences_of x) next) (fence_answer (target_of s (object_at (fences_of x) next).object))
  by_stage (stage.Reset x next) = resets x next (object_at (resets_of x) next) (reset_answer (target_of s (object_at (resets_of x) next).object) (object_at (resets_of x) next).object.number x.side.layout.generation)
  by_stage (stage.Settle x) = settling x (first_writer s.locks c.client (settled_objects x)) (size_of x.side.file s.meta)
  by_stage (stage.Take t) = takes t (piece_from t) (read_answer (target_of s (object_of (piece_from t))))
  by_stage (stage.Put t bytes) = puts t bytes (piece_to t) (write_answer (target_of s (object_of (piece_to t))) (object_of (piece_to t)).number t.copying.side.layout.generation)
  by_stage (stage.Done key cleared left) = ends cleared left (copy_ends key cleared s.meta)

  merge_fencing : (x : ComparingView) (next : ℕ) (o : ObjectId) (a : CallAnswer) → IfFixed ComparesNone (merge_fences_object c s x next o a)
  merge_fencing x next o answer.Ok = tt
  merge_fencing x next o (answer.Old kept) = tt
  merge_fencing x next o answer.Failed = tt

  merge_settling : (x : ComparingView) (o : Option (ℕ × Range)) (next : MergeStage) → IfFixed ComparesNone (merge_settles c s x o next)
  merge_settling x (Some told) next = tt
  merge_settling x None next = tt

  taking_ours : (p : Pair) (q : Piece) (a : CallAnswer) → IfFixed ComparesNone (takes_ours c s p q a)
  taking_ours p q answer.Ok = tt
  taking_ours p q (answer.Old kept) = tt
  taking_ours p q answer.Failed = tt

  taking_theirs : (p : Pair) (ours : Option (List ℕ)) (q : Piece) (a : CallAnswer) → IfFixed ComparesNone (takes_theirs c s p ours q a)
  taking_theirs p ours q answer.Ok = tt
  taking_theirs p ours q (answer.Old kept) = tt
  taking_theirs p ours q answer.Failed = tt

  tells : (kept : Reply) → TellsOfBoth kept → ComparesNone kept
  tells (reply.Same count) is = absurd is
  tells (reply.Differ entries) is = absurd is
  tells other is = tt

  kept_by : (kept : Reply) (a b : KeyState) → TellsOfBoth kept → ComparesNone (kept_answer kept a b)
  kept_by kept (Broken step) b is = tt
  kept_by kept Held (Broken step) is = tt
  kept_by kept Held Held is = tells kept is

  taken : (o : Ending (List ℕ)) → IfFixed ComparesNone (ends_merge c s o)
  taken (Ends ids after) = tt
  taken (Breaks step after) = tt
  taken (Holds holder) = tt

  last : (ours theirs : KeyView) (refusal : Option Reply) → Keeps refusal → IfFixed ComparesNone (merge_ends_with c s ours theirs refusal)
  last ours theirs (Some kept) is = kept_by kept (state_of s.meta.leases ours) (state_of s.meta.leases theirs) is
  last ours theirs None is = taken (merge_ends ours theirs s.meta)

  by_merge : (next : MergeStage) → KeepsAt next → IfFixed ComparesNone (merge_stage_at next c s)
  by_merge (merge.Fence x next) k = merge_fencing x next (object_at (merge_fences x) next).object (fence_answer (target_of s (object_at (merge_fences x) next).object))
  by_merge (merge.Settle x) k = merge_settling x (first_writer s.locks c.client (merge_fences x)) (merge_settled x (size_of x.ours.file s.meta) (size_of x.theirs.file s.meta))
  by_merge (merge.TakeOurs p) k = taking_ours p (our_piece p) (read_answer (target_of s (object_of (our_piece p))))
  by_merge (merge.TakeTheirs p ours) k = taking_theirs p ours (their_piece p) (read_answer (target_of s (object_of (their_piece p))))
  by_merge (merge.Done ours theirs refusal) k = last ours theirs refusal k

  pub copy_none : (a : CopyAt) → KeepsNone a → IfFixed ComparesNone (copy_at a c s)
  copy_none copy.Begin k = begun_by (beginning.copy_begins c.client c.name c.what s.meta) (begin_plain c.client s.meta c.name c.what)
  copy_none (copy.Copy next) k = by_stage next
  copy_none (copy.Merge next) k = by_merge next k
