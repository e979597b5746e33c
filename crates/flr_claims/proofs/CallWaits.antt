-- Whom the steps of calls wait for.
use Rattle.std.proofs.Common.{◌≡◌, ℕ, Bool, true, false, List, [], ◌∷◌, refl, ap, ◌∙◌}
use Rattle.std.specs.Prelude.{Option, Some, None}
use Rattle.std.specs.Prelude.{nat_lt}
use Rattle.std.specs.Option.{option_or}
use Rattle.flr_base.specs.declared.reply.FailedCall.{FailedCall}
use Rattle.flr_base.specs.declared.reply.Left.{Left}
use Rattle.flr_base.specs.declared.reply.ObjectId.{ObjectId}
use Rattle.flr_base.specs.declared.reply.Range.{Range}
use Rattle.flr_base.specs.declared.reply.Reply.{Reply}
use Rattle.extent_lock.specs.declared.lock.Lock.{Lock}
use Rattle.extent_lock.specs.Extents.{blocker, writer_but}
use Rattle.layout_lease.specs.Leases.{KeyView, state_of}
use Rattle.composite_layout.specs.Layouts.{eof}
use Rattle.meta_server.specs.Beginning.{copy_begins}
use Rattle.meta_server.specs.Closing.{confirms, holds, is_there, size_of}
use Rattle.meta_server.specs.declared.answers.Begun.{Begun}
use Rattle.meta_server.specs.declared.answers.Begun.TheVariants as begun
use Rattle.meta_server.specs.declared.answers.Opened.{Opened}
use Rattle.meta_server.specs.Ending.{copy_ends, merge_ends}
use Rattle.meta_server.specs.Files.{File, file_named, file_of}
use Rattle.flr_base.specs.Limits.{most_bytes}
use Rattle.meta_server.specs.Opening.{cut_opens, write_opens}
use Rattle.meta_server.specs.Outcomes.{Ending, Ends, Breaks, Holds, Gives, Refuses, Waits}
use Rattle.meta_server.specs.Outcomes as meta
use Rattle.mirror_select.specs.declared.types.Piece.{Piece}
use Rattle.object_target.specs.Calls.{fence_answer, read_answer, reset_answer, write_answer}
use Rattle.object_target.specs.declared.call.CallAnswer.{CallAnswer}
use Rattle.object_target.specs.declared.call.CallAnswer.TheVariants as answer
use Rattle.call_steps.specs.Pieces.{object_of, piece_at}
use Rattle.call_steps.specs.Servers.{Servers}
use Rattle.call_steps.specs.Steps.{Outcome, Going, Fixed, Ended, Answered, Blocked, widen}
use Rattle.client_read.specs.declared.phase.ReadAt.{ReadAt}
use Rattle.client_read.specs.declared.phase.ReadAt.TheVariants as read_at
use Rattle.client_read.specs.declared.phase.Reading.{Reading}
use Rattle.client_read.specs.Reads as read
use Rattle.client_read.specs.Views.{ReadView}
use Rattle.client_write.specs.Calls.{TruncateView, WriteView}
use Rattle.client_write.specs.declared.phase.CutAt.{CutAt}
use Rattle.client_write.specs.declared.phase.CutAt.TheVariants as cut_at
use Rattle.client_write.specs.declared.phase.Sent.{Sent}
use Rattle.client_write.specs.declared.phase.WriteAt.{WriteAt}
use Rattle.client_write.specs.declared.phase.WriteAt.TheVariants as write_at
use Rattle.client_write.specs.Truncates as cut
use Rattle.client_write.specs.Views.{CuttingView, WritingView}
use Rattle.client_write.specs.Writes as write
use Rattle.mirror_verify.specs.Blocks as blocks
use Rattle.mirror_verify.specs.declared.phase.VerifyAt.{VerifyAt}
use Rattle.mirror_verify.specs.declared.phase.VerifyAt.TheVariants as verify_at
use Rattle.mirror_verify.specs.declared.phase.Verifying.{Verifying}
use Rattle.mirror_verify.specs.Verifies as verify
use Rattle.mirror_verify.specs.Views.{VerifyView}
use Rattle.resync_copy.specs.Calls.{CopyView}
use Rattle.resync_copy.specs.Comparing.{ComparingView, merge_fences}
use Rattle.resync_copy.specs.Copies as copies
use Rattle.resync_copy.specs.declared.merge_phase.MergeStage.{MergeStage}
use Rattle.resync_copy.specs.declared.merge_phase.MergeStage.TheVariants as merge
use Rattle.resync_copy.specs.declared.merge_phase.Pair.{Pair}
use Rattle.resync_copy.specs.declared.parts.CopyObject.{CopyObject}
use Rattle.resync_copy.specs.declared.phase.Chunk.{Chunk}
use Rattle.resync_copy.specs.declared.phase.CopyAt.{CopyAt}
use Rattle.resync_copy.specs.declared.phase.CopyAt.TheVariants as copying
use Rattle.resync_copy.specs.declared.phase.CopyStage.{CopyStage}
use Rattle.resync_copy.specs.declared.phase.CopyStage.TheVariants as stage
use Rattle.resync_copy.specs.Merges as merges
use Rattle.resync_copy.specs.Steps.{begins, copy_at}
use Rattle.resync_copy.specs.Views.{CopyingView, fences_of, resets_of}
use Rattle.flr_steps.specs.Owners.{AreOwn, copy_keys, merge_keys, stage_keys}
use Rattle.flr_claims.specs.Blocking.{begin_needs, copy_needs, cut_needs, done_needs, first_in_way, first_writer, holder_told, in_way_of, merge_done_needs, merge_needs, object_ids, read_needs, stage_needs, write_needs}
use Rattle.flr_claims.proofs.MetaWaits.{begin_waits, end_waits, ends_waits, merge_end_waits, open_waits, waits}

-- whom a step waits for
abbrev pub held_up : {C : Type 0} → Outcome C → Option ℕ
held_up (Going next after) = None
held_up (Fixed next reply takes after) = None
held_up (Ended after) = None
held_up (Answered reply takes after) = None
held_up (Blocked holder) = Some holder

pub held_widen : {C D : Type 0} (f : C → D) (o : Outcome C) → held_up (widen f o) ≡ held_up o
held_widen f (Going next after) = refl
held_widen f (Fixed next reply takes after) = refl
held_widen f (Ended after) = refl
held_widen f (Answered reply takes after) = refl
held_widen f (Blocked holder) = refl

-- ---- reads

module _ (r : ReadView) (s : Servers) where
  read_by_byte : (f : File) (o : Option ℕ) → held_up (read.shares_file r s f o) ≡ None
  read_by_byte f (Some byte) = refl
  read_by_byte f None = refl

  read_by_file : (o : Option File) → held_up (read.opens_file r s o) ≡ None
  read_by_file None = refl
  read_by_file (Some f) = read_by_byte f (read.unanswered f.layout r.range [])

  read_by_lock : (x : Reading) (next : ℕ) (o : Option (ℕ × Range)) → held_up (read.locks_piece r s x next o) ≡ holder_told (option_or o None)
  read_by_lock x next (Some told) = refl
  read_by_lock x next None = refl

  read_by_answer : (x : Reading) (next : ℕ) (p : Piece) (a : CallAnswer) → held_up (read.takes_piece r s x next p a) ≡ None
  read_by_answer x next p answer.Ok = refl
  read_by_answer x next p (answer.Old kept) = refl
  read_by_answer x next p answer.Failed = refl

  read_by_others : (x : Reading) (o : Option ℕ) → held_up (read.others_answer r s x o) ≡ None
  read_by_others x (Some byte) = refl
  read_by_others x None = refl

  read_by_cookie : (x : Reading) (b : Bool) → held_up (read.looks_again r s x b) ≡ None
  read_by_cookie x false = refl
  read_by_cookie x true = read_by_others x (read.unanswered x.opened.layout r.range (read.ids_of x.failed))

  read_by_size : (x : Reading) (o : Option ℕ) → held_up (read.confirms_read r s x o) ≡ None
  read_by_size x None = refl
  read_by_size x (Some size) = refl

  pub read_waits : (client : ℕ) (at : ReadAt) → held_up (read.read_at at r s) ≡ in_way_of s client (read_needs r at)
  read_waits client read_at.Open = read_by_file (file_named r.name s.meta.files)
  read_waits client (read_at.Lock x next) = read_by_lock x next (blocker s.locks (read.lock_for r (piece_at x.pieces next)))
  read_waits client (read_at.Take x next) = read_by_answer x next (piece_at x.pieces next) (read_answer (read.target_of s (piece_at x.pieces next)))
  read_waits client (read_at.Again x) = read_by_cookie x (holds x.opened.file x.opened.cookie s.meta)
  read_waits client (read_at.Confirm x) = read_by_size x (confirms x.opened.file x.opened.cookie s.meta)
  read_waits client read_at.UnlockAgain = refl
  read_waits client read_at.Unlock = refl

-- ---- writes

module _ (w : WriteView) (place : ℕ) (s : Servers) where
  write_by_open : (o : meta.Outcome Opened) → held_up (write.opens w s o) ≡ waits o
  write_by_open (Gives given after) = refl
  write_by_open (Refuses reply) = refl
  write_by_open (Waits holder) = refl

  write_by_lock : (x : WritingView) (next : ℕ) (o : Option (ℕ × Range)) → held_up (write.locks_piece w s x next o) ≡ holder_told (option_or o None)
  write_by_lock x next (Some told) = refl
  write_by_lock x next None = refl

  write_by_file : (x : WritingView) (end : ℕ) (came : Sent) (b : Bool) → held_up (write.commits_write w s x end came b) ≡ None
  write_by_file x end came true = refl
  write_by_file x end came false = refl

  pub write_waits : (at : WriteAt) → held_up (write.write_at at w place s) ≡ in_way_of s w.client (write_needs w at s)
  write_waits write_at.Open =
      write_by_open (write_opens w.client w.name (write.range_of w) place s.meta)
      ∙ open_waits s w.client (write.range_of w) place s.meta w.name (nat_lt most_bytes (write.range_of w).end) (file_named w.name s.meta.files)
  write_waits (write_at.Lock x next) = write_by_lock x next (blocker s.locks (write.lock_for w (piece_at x.pieces next)))
  write_waits (write_at.Send x next) = refl
  write_waits (write_at.Commit x end came) = write_by_file x end came (is_there x.opened.file s.meta)
  write_waits write_at.UnlockAgain = refl
  write_waits write_at.Unlock = refl

-- ---- truncates

first_same : (locks held : List Lock) → cut.first_blocker locks held ≡ first_in_way held locks
first_same [] held = refl
first_same (lock ∷ locks) held = ap (λ (o : Option (ℕ × Range)). option_or (blocker held lock) o) (first_same locks held)

module _ (t : TruncateView) (place : ℕ) (s : Servers) where
  cut_by_open : (o : meta.Outcome Opened) → held_up (cut.opens_cut t s o) ≡ waits o
  cut_by_open (Gives given after) = refl
  cut_by_open (Refuses reply) = refl
  cut_by_open (Waits holder) = refl

  cut_by_lock : (x : CuttingView) (o : Option (ℕ × Range)) → held_up (cut.locks_tails t s x o) ≡ holder_told o
  cut_by_lock x (Some told) = refl
  cut_by_lock x None = refl

  cut_by_file : (x : CuttingView) (came : Sent) (b : Bool) → held_up (cut.commits_cut t s x came b) ≡ None
  cut_by_file x came true = refl
  cut_by_file x came false = refl

  pub cut_waits : (at : CutAt) → held_up (cut.truncate_at at t place s) ≡ in_way_of s t.client (cut_needs t at s)
  cut_waits cut_at.Open =
      cut_by_open (cut_opens t.client t.name t.size place s.meta)
      ∙ open_waits s t.client (record { start = t.size; end = eof }) place s.meta t.name (nat_lt most_bytes t.size) (file_named t.name s.meta.files)
  cut_waits (cut_at.Lock x) = cut_by_lock x (cut.first_blocker (cut.locks_for t x) s.locks) ∙ ap holder_told (first_same (cut.locks_for t x) s.locks)
  cut_waits (cut_at.Punch x next) = refl
  cut_waits (cut_at.Commit x came) = cut_by_file x came (is_there x.opened.file s.meta)
  cut_waits cut_at.UnlockAgain = refl
  cut_waits cut_at.Unlock = refl

-- ---- verifies

module _ (v : VerifyView) (s : Servers) where
  verify_by_file : (o : Option File) → held_up (verify.opens_file v s o) ≡ None
  verify_by_file None = refl
  verify_by_file (Some f) = refl

  verify_by_answer : (x : Verifying) (next : ℕ) (p : Piece) (a : CallAnswer) → held_up (verify.takes_copy v s x next p a) ≡ None
  verify_by_answer x next p answer.Ok = refl
  verify_by_answer x next p (answer.Old kept) = refl
  verify_by_answer x next p answer.Failed = refl

  verify_by_cookie : (x : Verifying) (fault : Option FailedCall) (b : Bool) → held_up (verify.closes v s x fault b) ≡ None
  verify_by_cookie x fault false = refl
  verify_by_cookie x fault true = refl

  pub verify_waits : (at : VerifyAt) → held_up (verify.verify_at at v s) ≡ None
  verify_waits verify_at.Open = verify_by_file (file_named v.name s.meta.files)
  verify_waits (verify_at.Take x next) = verify_by_answer x next (blocks.copy_at x.copies next).piece (read_answer (verify.target_of s (blocks.copy_at x.copies next).piece))
  verify_waits (verify_at.Close x fault) = verify_by_cookie x fault (holds x.opened.file x.opened.cookie s.meta)

-- ---- copies

writer_same : (held : List Lock) (client : ℕ) (os : List CopyObject) → copies.first_writer held client os ≡ first_writer held client (object_ids os)
writer_same held client [] = refl
writer_same held client (o ∷ os) = ap (λ (next : Option (ℕ × Range)). option_or (writer_but held client o.object) next) (writer_same held client os)

module _ (c : CopyView) (s : Servers) where
  fence_by_answer : (x : CopyingView) (next : ℕ) (o : CopyObject) (a : CallAnswer) → held_up (copies.fences_object c s x next o a) ≡ None
  fence_by_answer x next o answer.Ok = refl
  fence_by_answer x next o (answer.Old kept) = refl
  fence_by_answer x next o answer.Failed = refl

  reset_by_answer : (x : CopyingView) (next : ℕ) (o : CopyObject) (a : CallAnswer) → held_up (copies.resets_object c s x next o a) ≡ None
  reset_by_answer x next o answer.Ok = refl
  reset_by_answer x next o (answer.Old kept) = refl
  reset_by_answer x next o answer.Failed = refl

  settle_by_writer : (x : CopyingView) (o : Option (ℕ × Range)) (size : Option ℕ) → held_up (copies.settles c s x o size) ≡ holder_told o
  settle_by_writer x (Some told) size = refl
  settle_by_writer x None size = refl

  take_by_answer : (h : Chunk) (p : Piece) (a : CallAnswer) → held_up (copies.takes_chunk c s h p a) ≡ None
  take_by_answer h p answer.Ok = refl
  take_by_answer h p (answer.Old kept) = refl
  take_by_answer h p answer.Failed = refl

  put_by_answer : (h : Chunk) (bytes : List ℕ) (p : Piece) (a : CallAnswer) → held_up (copies.puts_chunk c s h bytes p a) ≡ None
  put_by_answer h bytes p answer.Ok = refl
  put_by_answer h bytes p (answer.Old kept) = refl
  put_by_answer h bytes p answer.Failed = refl

  done_by_ending : (cleared : List ℕ) (left : List Left) (o : Ending (Unit {0})) → held_up (copies.ends_copy c s cleared left o) ≡ ends_waits o
  done_by_ending cleared left (Ends done after) = refl
  done_by_ending cleared left (Breaks step after) = refl
  done_by_ending cleared left (Holds holder) = refl

  stage_waits : (client : ℕ) (at : CopyStage) → c.client ≡ client → AreOwn client (stage_keys at) → held_up (copies.stage_at at c s) ≡ in_way_of s client (stage_needs at s)
  stage_waits client (stage.Fence x next) own keys = fence_by_answer x next (copies.object_at (fences_of x) next) (fence_answer (copies.target_of s (copies.object_at (fences_of x) next).object))
  stage_waits client (stage.Reset x next) own keys =
      let o = copies.object_at (resets_of x) next in reset_by_answer x next o (reset_answer (copies.target_of s o.object) o.object.number x.side.layout.generation)
  stage_waits client (stage.Settle x) own keys =
      settle_by_writer x (copies.first_writer s.locks c.client (copies.settled_objects x)) (size_of x.side.file s.meta)
      ∙ ap holder_told (writer_same s.locks c.client (copies.settled_objects x))
      ∙ ap (λ (n : ℕ). holder_told (first_writer s.locks n (object_ids (copies.settled_objects x)))) own
  stage_waits client (stage.Take h) own keys = take_by_answer h (copies.piece_from h) (read_answer (copies.target_of s (object_of (copies.piece_from h))))
  stage_waits client (stage.Put h bytes) own keys =
      let p = copies.piece_to h in put_by_answer h bytes p (write_answer (copies.target_of s (object_of p)) (object_of p).number h.copying.side.layout.generation)
  stage_waits client (stage.Done key cleared left) own keys =
      done_by_ending cleared left (copy_ends key cleared s.meta) ∙ end_waits s key cleared s.meta (state_of s.meta.leases key)
      ∙ ap (λ (n : ℕ). in_way_of s n (done_needs (state_of s.meta.leases key) (file_of key.file s.meta.files))) keys.0

  merge_fence_by_answer : (x : ComparingView) (next : ℕ) (o : ObjectId) (a : CallAnswer) → held_up (merges.merge_fences_object c s x next o a) ≡ None
  merge_fence_by_answer x next o answer.Ok = refl
  merge_fence_by_answer x next o (answer.Old kept) = refl
  merge_fence_by_answer x next o answer.Failed = refl

  merge_settle_by_writer : (x : ComparingView) (o : Option (ℕ × Range)) (next : MergeStage) → held_up (merges.merge_settles c s x o next) ≡ holder_told o
  merge_settle_by_writer x (Some told) next = refl
  merge_settle_by_writer x None next = refl

  our_take_by_answer : (p : Pair) (q : Piece) (a : CallAnswer) → held_up (merges.takes_ours c s p q a) ≡ None
  our_take_by_answer p q answer.Ok = refl
  our_take_by_answer p q (answer.Old kept) = refl
  our_take_by_answer p q answer.Failed = refl

  their_take_by_answer : (p : Pair) (ours : Option (List ℕ)) (q : Piece) (a : CallAnswer) → held_up (merges.takes_theirs c s p ours q a) ≡ None
  their_take_by_answer p ours q answer.Ok = refl
  their_take_by_answer p ours q (answer.Old kept) = refl
  their_take_by_answer p ours q answer.Failed = refl

  merged_by_ending : (o : Ending (List ℕ)) → held_up (merges.ends_merge c s o) ≡ ends_waits o
  merged_by_ending (Ends ids after) = refl
  merged_by_ending (Breaks step after) = refl
  merged_by_ending (Holds holder) = refl

  merged_by_refusal : (client : ℕ) (ours theirs : KeyView) (refusal : Option Reply) → ours.client ≡ client → held_up (merges.merge_ends_with c s ours theirs refusal)
      ≡ in_way_of s client (merge_done_needs refusal (state_of s.meta.leases ours) (state_of s.meta.leases theirs) (file_of ours.file s.meta.files) (file_of theirs.file s.meta.files))
  merged_by_refusal client ours theirs (Some kept) own = refl
  merged_by_refusal client ours theirs None own =
      merged_by_ending (merge_ends ours theirs s.meta) ∙ merge_end_waits s ours theirs s.meta (state_of s.meta.leases ours) (state_of s.meta.leases theirs)
      ∙ ap (λ (n : ℕ). in_way_of s n (merge_done_needs None (state_of s.meta.leases ours) (state_of s.meta.leases theirs) (file_of ours.file s.meta.files) (file_of theirs.file s.meta.files))) own

  merge_stage_waits : (client : ℕ) (at : MergeStage) → c.client ≡ client → AreOwn client (merge_keys at) → held_up (merges.merge_stage_at at c s) ≡ in_way_of s client (merge_needs at s)
  merge_stage_waits client (merge.Fence x next) own keys =
      let o = (copies.object_at (merge_fences x) next).object in merge_fence_by_answer x next o (fence_answer (copies.target_of s o))
  merge_stage_waits client (merge.Settle x) own keys =
      merge_settle_by_writer x (copies.first_writer s.locks c.client (merge_fences x)) (merges.merge_settled x (size_of x.ours.file s.meta) (size_of x.theirs.file s.meta))
      ∙ ap holder_told (writer_same s.locks c.client (merge_fences x))
      ∙ ap (λ (n : ℕ). holder_told (first_writer s.locks n (object_ids (merge_fences x)))) own
  merge_stage_waits client (merge.TakeOurs p) own keys = our_take_by_answer p (merges.our_piece p) (read_answer (copies.target_of s (object_of (merges.our_piece p))))
  merge_stage_waits client (merge.TakeTheirs p ours) own keys = their_take_by_answer p ours (merges.their_piece p) (read_answer (copies.target_of s (object_of (merges.their_piece p))))
  merge_stage_waits client (merge.Done ours theirs refusal) own keys = merged_by_refusal client ours theirs refusal keys.0

  begin_by_outcome : (o : meta.Outcome Begun) → held_up (begins c s o) ≡ waits o
  begin_by_outcome (Gives begun.Nothing after) = refl
  begin_by_outcome (Gives (begun.Copy side ids) after) = refl
  begin_by_outcome (Gives (begun.Merge ours theirs) after) = refl
  begin_by_outcome (Refuses refusal) = refl
  begin_by_outcome (Waits holder) = refl

  pub copy_waits : (client : ℕ) (at : CopyAt) → c.client ≡ client → AreOwn client (copy_keys at) → held_up (copy_at at c s) ≡ in_way_of s client (copy_needs c at s)
  copy_waits client copying.Begin own keys =
      begin_by_outcome (copy_begins c.client c.name c.what s.meta) ∙ begin_waits s c.client s.meta c.name c.what (file_named c.name s.meta.files)
      ∙ ap (λ (n : ℕ). in_way_of s n (begin_needs c.name s.meta c.what (file_named c.name s.meta.files))) own
  copy_waits client (copying.Copy next) own keys = stage_waits client next own keys
  copy_waits client (copying.Merge next) own keys = merge_stage_waits client next own keys
