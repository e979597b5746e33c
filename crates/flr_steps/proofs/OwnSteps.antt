-- A step leaves a call its client's, and the keys that it has too.
use Rattle.std.proofs.Common.{◌≡◌, ℕ, ◌+◌, ◌-◌, nat_lt, ◌==◌, Bool, true, false, if◌then◌else◌, List, [], ◌∷◌, ◌++◌, length, drop, refl, sym, subst}
use Rattle.std.specs.Prelude.{Option, Some, None, unwrap_or}
use Rattle.flr_base.specs.declared.reply.FailedCall.{FailedCall}
use Rattle.flr_base.specs.declared.reply.Left.{Left}
use Rattle.flr_base.specs.declared.reply.ObjectId.{ObjectId}
use Rattle.flr_base.specs.declared.reply.Range.{Range}
use Rattle.flr_base.specs.declared.reply.Reply.{Reply}
use Rattle.flr_base.specs.declared.reply.Reply.TheVariants as reply
use Rattle.composite_layout.specs.declared.component.Component.{Component}
use Rattle.composite_layout.specs.declared.spec.MirrorSpec.{MirrorSpec}
use Rattle.composite_layout.specs.LookUps.{mirror_ids}
use Rattle.composite_layout.specs.Making.{part_count}
use Rattle.extent_lock.specs.Extents.{blocker}
use Rattle.layout_lease.specs.Leases.{KeyView, holder_of}
use Rattle.layout_lease.specs.Shares.{lowest_but}
use Rattle.layout_state.specs.declared.error.StateError.{StateError}
use Rattle.layout_state.specs.Mirroring.{excess}
use Rattle.layout_state.specs.Selecting.{absent_of, selected_of}
use Rattle.meta_server.specs.Beginning as begin
use Rattle.meta_server.specs.Closing.{confirms, holds, is_there, size_of}
use Rattle.meta_server.specs.declared.answers.Begun.{Begun}
use Rattle.meta_server.specs.declared.answers.Begun.TheVariants as begun_as
use Rattle.meta_server.specs.declared.answers.CopyWhat.{CopyWhat}
use Rattle.meta_server.specs.declared.answers.CopyWhat.TheVariants as what
use Rattle.meta_server.specs.declared.answers.Opened.{Opened}
use Rattle.meta_server.specs.Ending.{copy_ends, merge_ends}
use Rattle.meta_server.specs.Files.{File, MetaView, file_named}
use Rattle.meta_server.specs.Layouts.{extended, new_ids, offline_byte}
use Rattle.meta_server.specs.Opening.{cut_opens, write_opens}
use Rattle.meta_server.specs.Outcomes.{Ending, Ends, Breaks, Holds, Gives, Refuses, Waits}
use Rattle.meta_server.specs.Outcomes as meta
use Rattle.mirror_select.specs.Candidates.{chosen}
use Rattle.mirror_select.specs.declared.types.Piece.{Piece}
use Rattle.object_target.specs.Calls.{fence_answer, read_answer, reset_answer, write_answer}
use Rattle.object_target.specs.declared.call.CallAnswer.{CallAnswer}
use Rattle.object_target.specs.declared.call.CallAnswer.TheVariants as answer
use Rattle.call_steps.specs.Pieces.{object_of, piece_at}
use Rattle.call_steps.specs.Servers.{Servers, next_call_on}
use Rattle.call_steps.specs.Steps.{Outcome, Going, Fixed, Ended, Answered, Blocked, widen}
use Rattle.client_read.specs.declared.phase.ReadAt.{ReadAt}
use Rattle.client_read.specs.declared.phase.ReadAt.TheVariants as read_at
use Rattle.client_read.specs.declared.phase.Reading.{Reading}
use Rattle.client_read.specs.Reads as read
use Rattle.client_read.specs.Views.{ReadView}
use Rattle.client_write.specs.Calls.{TruncateView, WriteView}
use Rattle.client_write.specs.declared.phase.CutAt.{CutAt}
use Rattle.client_write.specs.declared.phase.CutAt.TheVariants as cut_at
use Rattle.client_write.specs.declared.phase.Sent.{Sent}
use Rattle.client_write.specs.declared.phase.WriteAt.{WriteAt}
use Rattle.client_write.specs.declared.phase.WriteAt.TheVariants as write_at
use Rattle.client_write.specs.Truncates as cut
use Rattle.client_write.specs.Views.{CuttingView, WritingView}
use Rattle.client_write.specs.Writes as write
use Rattle.mirror_verify.specs.Blocks as blocks
use Rattle.mirror_verify.specs.declared.phase.VerifyAt.{VerifyAt}
use Rattle.mirror_verify.specs.declared.phase.VerifyAt.TheVariants as verify_at
use Rattle.mirror_verify.specs.declared.phase.Verifying.{Verifying}
use Rattle.mirror_verify.specs.Verifies as verify
use Rattle.mirror_verify.specs.Views.{VerifyView}
use Rattle.resync_copy.specs.Calls.{CopyView}
use Rattle.resync_copy.specs.Chunks.{chunk_of, chunk_start, chunks_between, first_solid}
use Rattle.resync_copy.specs.Comparing.{ComparingView, comparing_of, merge_fences}
use Rattle.resync_copy.specs.Copies as copies
use Rattle.resync_copy.specs.declared.merge_phase.MergeStage.{MergeStage}
use Rattle.resync_copy.specs.declared.merge_phase.MergeStage.TheVariants as merge
use Rattle.resync_copy.specs.declared.merge_phase.Pair.{Pair}
use Rattle.resync_copy.specs.declared.parts.CopyObject.{CopyObject}
use Rattle.resync_copy.specs.declared.parts.Destination.{Destination}
use Rattle.resync_copy.specs.declared.phase.Chunk.{Chunk}
use Rattle.resync_copy.specs.declared.phase.CopyAt.{CopyAt}
use Rattle.resync_copy.specs.declared.phase.CopyAt.TheVariants as copying
use Rattle.resync_copy.specs.declared.phase.CopyStage.{CopyStage}
use Rattle.resync_copy.specs.declared.phase.CopyStage.TheVariants as stage
use Rattle.resync_copy.specs.Merges as merges
use Rattle.resync_copy.specs.Parts.{all_left, destination_at, is_kept}
use Rattle.resync_copy.specs.Steps.{begins, copy_at}
use Rattle.resync_copy.specs.Views.{CopyingView, begun_copy, fences_of, resets_of}
use Rattle.flr_steps.specs.Owners.{AreOwn, copy_keys, copying_key, comparing_keys, merge_keys, stage_keys}

-- what is so of the call, if it goes on
abbrev pub AllNext : {C : Type 0} → (C → Type 0) → Outcome C → Type 0
AllNext P (Going next after) = P next
AllNext P (Fixed next reply takes after) = P next
AllNext P (Ended after) = Unit {0}
AllNext P (Answered reply takes after) = Unit {0}
AllNext P (Blocked holder) = Unit {0}

pub all_widen : {C D : Type 0} (f : C → D) (P : D → Type 0) (o : Outcome C) → AllNext (λ (x : C). P (f x)) o → AllNext P (widen f o)
all_widen f P (Going next after) h = h
all_widen f P (Fixed next reply takes after) h = h
all_widen f P (Ended after) h = tt
all_widen f P (Answered reply takes after) h = tt
all_widen f P (Blocked holder) h = tt

-- ---- reads

module _ (c : ℕ) (r : ReadView) (s : Servers) (own : r.client ≡ c) where
  abbrev ReadOwn : Outcome ReadView → Type 0
  ReadOwn o = AllNext (λ (x : ReadView). x.client ≡ c) o

  read_by_byte : (f : File) (o : Option ℕ) → ReadOwn (read.shares_file r s f o)
  read_by_byte f (Some byte) = tt
  read_by_byte f None = own

  read_by_file : (o : Option File) → ReadOwn (read.opens_file r s o)
  read_by_file None = tt
  read_by_file (Some f) = read_by_byte f (read.unanswered f.layout r.range [])

  read_by_lock : (x : Reading) (next : ℕ) (o : Option (ℕ × Range)) → ReadOwn (read.locks_piece r s x next o)
  read_by_lock x next (Some told) = tt
  read_by_lock x next None = own

  read_by_answer : (x : Reading) (next : ℕ) (p : Piece) (a : CallAnswer) → ReadOwn (read.takes_piece r s x next p a)
  read_by_answer x next p answer.Ok = own
  read_by_answer x next p (answer.Old kept) = own
  read_by_answer x next p answer.Failed = own

  read_by_others : (x : Reading) (o : Option ℕ) → ReadOwn (read.others_answer r s x o)
  read_by_others x (Some byte) = tt
  read_by_others x None = own

  read_by_cookie : (x : Reading) (b : Bool) → ReadOwn (read.looks_again r s x b)
  read_by_cookie x false = own
  read_by_cookie x true = read_by_others x (read.unanswered x.opened.layout r.range (read.ids_of x.failed))

  read_by_size : (x : Reading) (o : Option ℕ) → ReadOwn (read.confirms_read r s x o)
  read_by_size x None = own
  read_by_size x (Some size) = own

  pub read_own : (at : ReadAt) → ReadOwn (read.read_at at r s)
  read_own read_at.Open = read_by_file (file_named r.name s.meta.files)
  read_own (read_at.Lock x next) = read_by_lock x next (blocker s.locks (read.lock_for r (piece_at x.pieces next)))
  read_own (read_at.Take x next) = read_by_answer x next (piece_at x.pieces next) (read_answer (read.target_of s (piece_at x.pieces next)))
  read_own (read_at.Again x) = read_by_cookie x (holds x.opened.file x.opened.cookie s.meta)
  read_own (read_at.Confirm x) = read_by_size x (confirms x.opened.file x.opened.cookie s.meta)
  read_own read_at.UnlockAgain = own
  read_own read_at.Unlock = tt

-- ---- writes and truncates

module _ (c : ℕ) (w : WriteView) (place : ℕ) (s : Servers) (own : w.client ≡ c) where
  abbrev WriteOwn : Outcome WriteView → Type 0
  WriteOwn o = AllNext (λ (x : WriteView). x.client ≡ c) o

  write_by_open : (o : meta.Outcome Opened) → WriteOwn (write.opens w s o)
  write_by_open (Gives given after) = own
  write_by_open (Refuses reply) = tt
  write_by_open (Waits holder) = tt

  write_by_lock : (x : WritingView) (next : ℕ) (o : Option (ℕ × Range)) → WriteOwn (write.locks_piece w s x next o)
  write_by_lock x next (Some told) = tt
  write_by_lock x next None = own

  write_by_file : (x : WritingView) (end : ℕ) (came : Sent) (b : Bool) → WriteOwn (write.commits_write w s x end came b)
  write_by_file x end came true = own
  write_by_file x end came false = own

  pub write_own : (at : WriteAt) → WriteOwn (write.write_at at w place s)
  write_own write_at.Open = write_by_open (write_opens w.client w.name (write.range_of w) place s.meta)
  write_own (write_at.Lock x next) = write_by_lock x next (blocker s.locks (write.lock_for w (piece_at x.pieces next)))
  write_own (write_at.Send x next) = own
  write_own (write_at.Commit x end came) = write_by_file x end came (is_there x.opened.file s.meta)
  write_own write_at.UnlockAgain = own
  write_own write_at.Unlock = tt

module _ (c : ℕ) (t : TruncateView) (place : ℕ) (s : Servers) (own : t.client ≡ c) where
  abbrev CutOwn : Outcome TruncateView → Type 0
  CutOwn o = AllNext (λ (x : TruncateView). x.client ≡ c) o

  cut_by_open : (o : meta.Outcome Opened) → CutOwn (cut.opens_cut t s o)
  cut_by_open (Gives given after) = own
  cut_by_open (Refuses reply) = tt
  cut_by_open (Waits holder) = tt

  cut_by_lock : (x : CuttingView) (o : Option (ℕ × Range)) → CutOwn (cut.locks_tails t s x o)
  cut_by_lock x (Some told) = tt
  cut_by_lock x None = own

  cut_by_file : (x : CuttingView) (came : Sent) (b : Bool) → CutOwn (cut.commits_cut t s x came b)
  cut_by_file x came true = own
  cut_by_file x came false = own

  pub cut_own : (at : CutAt) → CutOwn (cut.truncate_at at t place s)
  cut_own cut_at.Open = cut_by_open (cut_opens t.client t.name t.size place s.meta)
  cut_own (cut_at.Lock x) = cut_by_lock x (cut.first_blocker (cut.locks_for t x) s.locks)
  cut_own (cut_at.Punch x next) = own
  cut_own (cut_at.Commit x came) = cut_by_file x came (is_there x.opened.file s.meta)
  cut_own cut_at.UnlockAgain = own
  cut_own cut_at.Unlock = tt

-- ---- verifies

module _ (c : ℕ) (v : VerifyView) (s : Servers) (own : v.client ≡ c) where
  abbrev VerifyOwn : Outcome VerifyView → Type 0
  VerifyOwn o = AllNext (λ (x : VerifyView). x.client ≡ c) o

  verify_by_file : (o : Option File) → VerifyOwn (verify.opens_file v s o)
  verify_by_file None = tt
  verify_by_file (Some f) = own

  verify_by_answer : (x : Verifying) (next : ℕ) (p : Piece) (a : CallAnswer) → VerifyOwn (verify.takes_copy v s x next p a)
  verify_by_answer x next p answer.Ok = own
  verify_by_answer x next p (answer.Old kept) = own
  verify_by_answer x next p answer.Failed = own

  verify_by_cookie : (x : Verifying) (fault : Option FailedCall) (b : Bool) → VerifyOwn (verify.closes v s x fault b)
  verify_by_cookie x fault false = own
  verify_by_cookie x fault true = tt

  pub verify_own : (at : VerifyAt) → VerifyOwn (verify.verify_at at v s)
  verify_own verify_at.Open = verify_by_file (file_named v.name s.meta.files)
  verify_own (verify_at.Take x next) = verify_by_answer x next (blocks.copy_at x.copies next).piece (read_answer (verify.target_of s (blocks.copy_at x.copies next).piece))
  verify_own (verify_at.Close x fault) = verify_by_cookie x fault (holds x.opened.file x.opened.cookie s.meta)

-- ---- what comes next of a copy

module _ (c : ℕ) where
  abbrev Mine : CopyingView → Type 0
  Mine x = AreOwn c (copying_key x)

  abbrev StageOwn : CopyStage → Type 0
  StageOwn next = AreOwn c (stage_keys next)

  by_left : (x : CopyingView) → Mine x → (b : Bool) → StageOwn (if b then copies.clears x else stage.Settle x)
  by_left x own true = own
  by_left x own false = own

  settles_own : (x : CopyingView) → Mine x → StageOwn (copies.settles_from x)
  settles_own x own = by_left x own (all_left x.destinations)

  resets_at_own : (x : CopyingView) → Mine x → (o : Option ℕ) → StageOwn (copies.resets_at x o)
  resets_at_own x own (Some next) = own
  resets_at_own x own None = settles_own x own

  resets_own : (x : CopyingView) (place : ℕ) → Mine x → StageOwn (copies.resets_from x place)
  resets_own x place own = resets_at_own x own (copies.next_reset x place)

  by_more : (x : CopyingView) (next : ℕ) → Mine x → (b : Bool) → StageOwn (if b then stage.Fence x next else copies.resets_from x 0)
  by_more x next own true = own
  by_more x next own false = resets_own x 0 own

  pub fences_own : (x : CopyingView) (next : ℕ) → Mine x → StageOwn (copies.fences_from x next)
  fences_own x next own = by_more x next own (nat_lt next (length (fences_of x)))

  module _ (size place : ℕ) (failed : List ℕ) (last : Option FailedCall) (others : CopyingView → CopyStage) (h : (x : CopyingView) → Mine x → StageOwn (others x)) where
    takes_own : (x : CopyingView) (number : ℕ) → Mine x → (o : Option Component) → StageOwn (copies.takes_from size place failed last others x number o)
    takes_own x number own (Some d) = own
    takes_own x number own None = h (copies.leaves_at x place (unwrap_or last copies.no_call)) own

    solid_own : (x : CopyingView) → Mine x → (o : Option ℕ) → StageOwn (copies.copies_solid size place failed last others x o)
    solid_own x own (Some number) = takes_own x number own (chosen x.side.layout.components failed (chunk_start number))
    solid_own x own None = h x own

    chunks_own : (x : CopyingView) (chunks : List ℕ) → Mine x → StageOwn (copies.copies_chunks size place failed last others x chunks)
    chunks_own x chunks own = solid_own x own (first_solid x.side.layout.components failed chunks)

  by_kept : (first second : CopyStage) → StageOwn first → StageOwn second → (b : Bool) → StageOwn (if b then first else second)
  by_kept first second p q true = p
  by_kept first second p q false = q

  each_own : (ds : List Destination) (size place : ℕ) (x : CopyingView) → Mine x → StageOwn (copies.copies_each size place ds x)
  each_own [] size place x own = own
  each_own (d ∷ ds) size place x own =
      let others = copies.copies_each size (place + 1) ds in
      let chunks = chunks_between (chunk_of d.extent.start) (copies.end_of size d) in
      by_kept (copies.copies_chunks size place [] None others x chunks) (others x) (chunks_own size place [] None others (λ y mine. each_own ds size (place + 1) y mine) x chunks own) (each_own ds size (place + 1) x own) (is_kept d)

  from_own : (size place : ℕ) (x : CopyingView) → Mine x → StageOwn (copies.copies_from size place x)
  from_own size place x own = each_own (drop place x.destinations) size place x own

  more_own : (size place : ℕ) (failed : List ℕ) (last : Option FailedCall) (number : ℕ) (x : CopyingView) → Mine x → StageOwn (copies.chunks_from size place failed last number x)
  more_own size place failed last number x own =
      chunks_own size place failed last (copies.copies_from size (place + 1)) (λ y mine. from_own size (place + 1) y mine) x (chunks_between number (copies.end_of size (destination_at x.destinations place))) own

  settled_own : (x : CopyingView) → Mine x → (o : Option ℕ) → StageOwn (copies.settled_from x o)
  settled_own x own (Some size) = from_own size 0 x own
  settled_own x own None = own

  -- ---- what comes next of a merge

  abbrev Ours : ComparingView → Type 0
  Ours x = AreOwn c (comparing_keys x)

  abbrev MergeOwn : MergeStage → Type 0
  MergeOwn next = AreOwn c (merge_keys next)

  by_fences : (x : ComparingView) (next : ℕ) → Ours x → (b : Bool) → MergeOwn (if b then merge.Fence x next else merge.Settle x)
  by_fences x next own true = own
  by_fences x next own false = own

  pub merge_fences_own : (x : ComparingView) (next : ℕ) → Ours x → MergeOwn (merges.merge_fences_from x next)
  merge_fences_own x next own = by_fences x next own (nat_lt next (length (merge_fences x)))

  theirs_start_own : (p : Pair) → Ours p.comparing → (o : Option Bool) → MergeOwn (merges.starts_theirs p o)
  theirs_start_own p own None = own
  theirs_start_own p own (Some solid) = own

  start_own : (p : Pair) → Ours p.comparing → (o q : Option Bool) → MergeOwn (merges.starts_pair p o q)
  start_own p own None q = own
  start_own p own (Some true) q = own
  start_own p own (Some false) q = theirs_start_own p own q

  pairs_at_own : (p : Pair) → Ours p.comparing → (o : Option ℕ) → MergeOwn (merges.pairs_at p o)
  pairs_at_own p own (Some number) =
      let n = merges.pair_at p number in start_own n own (merges.is_solid (merges.our_source n)) (merges.is_solid (merges.their_source n))
  pairs_at_own p own None = own

  pairs_own : (p : Pair) → Ours p.comparing → MergeOwn (merges.pairs_from p)
  pairs_own p own = pairs_at_own p own (merges.next_pair p)

  differs_own : (p : Pair) (ours theirs : Option (List ℕ)) → Ours p.comparing → (o : Option ℕ) → MergeOwn (merges.differs p ours theirs o)
  differs_own p ours theirs own (Some place) = own
  differs_own p ours theirs own None = pairs_own (merges.pair_at p (p.number + 1)) own

  compares_own : (p : Pair) (ours theirs : Option (List ℕ)) → Ours p.comparing → MergeOwn (merges.compares p ours theirs)
  compares_own p ours theirs own = differs_own p ours theirs own (merges.first_difference ((merges.range_of p).end - (merges.range_of p).start) ours theirs)

  theirs_by_own : (p : Pair) (ours : Option (List ℕ)) → Ours p.comparing → (o : Option Bool) → MergeOwn (merges.theirs_by p ours o)
  theirs_by_own p ours own None = own
  theirs_by_own p ours own (Some true) = own
  theirs_by_own p ours own (Some false) = compares_own p ours None own

  theirs_own : (p : Pair) (ours : Option (List ℕ)) → Ours p.comparing → MergeOwn (merges.theirs_from p ours)
  theirs_own p ours own = theirs_by_own p ours own (merges.is_solid (merges.their_source p))

  by_sizes : (x : ComparingView) (ours theirs : ℕ) → Ours x → (b : Bool) → MergeOwn (if b then merges.pairs_from (merges.first_pair x ours) else merges.merge_done x (Some (reply.Sizes ours theirs)))
  by_sizes x ours theirs own true = pairs_own (merges.first_pair x ours) own
  by_sizes x ours theirs own false = own

  merge_settled_own : (x : ComparingView) → Ours x → (o p : Option ℕ) → MergeOwn (merges.merge_settled x o p)
  merge_settled_own x own (Some ours) (Some theirs) = by_sizes x ours theirs own (ours == theirs)
  merge_settled_own x own (Some ours) None = own
  merge_settled_own x own None p = own

-- ---- begins

abbrev BegunOwn : ℕ → meta.Outcome Begun → Type 0
BegunOwn c (Gives begun_as.Nothing after) = Unit {0}
BegunOwn c (Gives (begun_as.Copy side ids) after) = AreOwn c (side.key ∷ [])
BegunOwn c (Gives (begun_as.Merge ours theirs) after) = AreOwn c (ours.key ∷ theirs.key ∷ [])
BegunOwn c (Refuses refusal) = Unit {0}
BegunOwn c (Waits holder) = Unit {0}

module _ (c : ℕ) (m : MetaView) where
  resync_by_holder : (f : File) (ids : List ℕ) (o : Option ℕ) → BegunOwn c (begin.resync_alone c m f ids o)
  resync_by_holder f ids (Some holder) = tt
  resync_by_holder f ids None = (refl, tt)

  resync_by_wanted : (f : File) (ids : List ℕ) (b : Bool) → BegunOwn c (begin.resync_wanted c m f ids b)
  resync_by_wanted f ids true = tt
  resync_by_wanted f ids false = resync_by_holder f ids (lowest_but c f.lock)

  resync_by_lease : (only : Option (List ℕ)) (f : File) (o : Option ℕ) → BegunOwn c (begin.resync_leased c m only f o)
  resync_by_lease only f (Some holder) = tt
  resync_by_lease only f None = let ids = selected_of only f.layout.components in resync_by_wanted f ids (length ids == 0)

  resync_by_mirror : (only : Option (List ℕ)) (f : File) (o : Option ℕ) → BegunOwn c (begin.resync_begins c m only f o)
  resync_by_mirror only f (Some id) = tt
  resync_by_mirror only f None = resync_by_lease only f (holder_of m.leases f.number)

  extend_by_wanted : (f : File) (ids : List ℕ) (b : Bool) → BegunOwn c (begin.extend_wanted c m f ids b)
  extend_by_wanted f ids true = tt
  extend_by_wanted f ids false = (refl, tt)

  extend_by_holder : (mirrors : List MirrorSpec) (f : File) (o : Option ℕ) → BegunOwn c (begin.extend_alone c m mirrors f o)
  extend_by_holder mirrors f (Some holder) = tt
  extend_by_holder mirrors f None =
      let layout = extended mirrors (length m.nexts) f.layout in
      let ids = selected_of (Some (new_ids mirrors f.layout)) layout.components in
      extend_by_wanted (record f { layout = layout }) ids (length ids == 0)

  extend_by_lease : (mirrors : List MirrorSpec) (f : File) (o : Option ℕ) → BegunOwn c (begin.extend_leased c m mirrors f o)
  extend_by_lease mirrors f (Some holder) = tt
  extend_by_lease mirrors f None = extend_by_holder mirrors f (lowest_but c f.lock)

  extend_by_room : (mirrors : List MirrorSpec) (f : File) (o : Option StateError) → BegunOwn c (begin.extend_begins c m mirrors f o)
  extend_by_room mirrors f (Some error) = tt
  extend_by_room mirrors f None = extend_by_lease mirrors f (holder_of m.leases f.number)

  merge_by_holders : (f v : File) (o p : Option ℕ) → BegunOwn c (begin.merge_alone c m f v o p)
  merge_by_holders f v (Some holder) p = tt
  merge_by_holders f v None (Some holder) = tt
  merge_by_holders f v None None = (refl, (refl, tt))

  merge_by_bytes : (f v : File) (o p : Option ℕ) → BegunOwn c (begin.merge_readable c m f v o p)
  merge_by_bytes f v (Some byte) p = tt
  merge_by_bytes f v None (Some byte) = tt
  merge_by_bytes f v None None = merge_by_holders f v (lowest_but c f.lock) (lowest_but c v.lock)

  merge_by_leases : (f v : File) (o p : Option ℕ) → BegunOwn c (begin.merge_leased c m f v o p)
  merge_by_leases f v (Some holder) p = tt
  merge_by_leases f v None (Some holder) = tt
  merge_by_leases f v None None = merge_by_bytes f v (offline_byte f.layout) (offline_byte v.layout)

  merge_by_room : (f v : File) (o : Option StateError) → BegunOwn c (begin.merge_fits c m f v o)
  merge_by_room f v (Some error) = tt
  merge_by_room f v None = merge_by_leases f v (holder_of m.leases f.number) (holder_of m.leases v.number)

  merge_by_victim : (victim : List ℕ) (f : File) (o : Option File) → BegunOwn c (begin.merge_begins c m victim f o)
  merge_by_victim victim f None = tt
  merge_by_victim victim f (Some v) = merge_by_room f v (excess f.layout (length (mirror_ids v.layout.components)) (length v.layout.components) m.most)

  begin_by : (f : File) (of : CopyWhat) → BegunOwn c (begin.copy_begins_on c m f of)
  begin_by f (what.Resync only) = resync_by_mirror only f (absent_of only f.layout.components)
  begin_by f (what.Extend mirrors) = extend_by_room mirrors f (excess f.layout (length mirrors) (part_count mirrors) m.most)
  begin_by f (what.Victim victim) = merge_by_victim victim f (file_named victim m.files)

  begin_own : (name : List ℕ) (of : CopyWhat) (o : Option File) → BegunOwn c (begin.copy_begins_file c m name of o)
  begin_own name of None = tt
  begin_own name of (Some f) = begin_by f of

-- ---- copies

module _ (c : ℕ) (k : CopyView) (s : Servers) (own : k.client ≡ c) where
  abbrev CopyOwn : Outcome CopyView → Type 0
  CopyOwn o = AllNext (λ (x : CopyView). (x.client ≡ c) × AreOwn c (copy_keys x.at)) o

  fence_by_answer : (x : CopyingView) (next : ℕ) (o : CopyObject) → Mine c x → (a : CallAnswer) → CopyOwn (copies.fences_object k s x next o a)
  fence_by_answer x next o mine answer.Ok = (own, fences_own c x (next + 1) mine)
  fence_by_answer x next o mine (answer.Old kept) = (own, fences_own c (copies.leaves_over x o.extent (next_call_on s.targets o.object.target)) (next + 1) mine)
  fence_by_answer x next o mine answer.Failed = (own, fences_own c (copies.leaves_over x o.extent (next_call_on s.targets o.object.target)) (next + 1) mine)

  reset_by_answer : (x : CopyingView) (next : ℕ) (o : CopyObject) → Mine c x → (a : CallAnswer) → CopyOwn (copies.resets_object k s x next o a)
  reset_by_answer x next o mine answer.Ok = (own, resets_own c x (next + 1) mine)
  reset_by_answer x next o mine (answer.Old kept) = (own, mine)
  reset_by_answer x next o mine answer.Failed = (own, resets_own c (copies.leaves_with x o.component (next_call_on s.targets o.object.target)) (next + 1) mine)

  settle_by_writer : (x : CopyingView) → Mine c x → (o : Option (ℕ × Range)) (size : Option ℕ) → CopyOwn (copies.settles k s x o size)
  settle_by_writer x mine (Some told) size = tt
  settle_by_writer x mine None size = (own, settled_own c x mine size)

  take_by_answer : (h : Chunk) (p : Piece) → Mine c h.copying → (a : CallAnswer) → CopyOwn (copies.takes_chunk k s h p a)
  take_by_answer h p mine answer.Ok = (own, mine)
  take_by_answer h p mine (answer.Old kept) = let call = next_call_on s.targets (object_of p).target in (own, more_own c h.size h.place (h.failed ++ p.component ∷ []) (Some call) h.number h.copying mine)
  take_by_answer h p mine answer.Failed = let call = next_call_on s.targets (object_of p).target in (own, more_own c h.size h.place (h.failed ++ p.component ∷ []) (Some call) h.number h.copying mine)

  put_by_answer : (h : Chunk) (bytes : List ℕ) (p : Piece) → Mine c h.copying → (a : CallAnswer) → CopyOwn (copies.puts_chunk k s h bytes p a)
  put_by_answer h bytes p mine answer.Ok = (own, more_own c h.size h.place h.failed h.last (h.number + 1) h.copying mine)
  put_by_answer h bytes p mine (answer.Old kept) = (own, mine)
  put_by_answer h bytes p mine answer.Failed = (own, from_own c h.size (h.place + 1) (copies.leaves_at h.copying h.place (next_call_on s.targets (object_of p).target)) mine)

  done_by_ending : (cleared : List ℕ) (left : List Left) (o : Ending (Unit {0})) → CopyOwn (copies.ends_copy k s cleared left o)
  done_by_ending cleared left (Ends done after) = tt
  done_by_ending cleared left (Breaks step after) = tt
  done_by_ending cleared left (Holds holder) = tt

  stage_own : (next : CopyStage) → AreOwn c (stage_keys next) → CopyOwn (copies.stage_at next k s)
  stage_own (stage.Fence x next) mine = let o = copies.object_at (fences_of x) next in fence_by_answer x next o mine (fence_answer (copies.target_of s o.object))
  stage_own (stage.Reset x next) mine = let o = copies.object_at (resets_of x) next in reset_by_answer x next o mine (reset_answer (copies.target_of s o.object) o.object.number x.side.layout.generation)
  stage_own (stage.Settle x) mine = settle_by_writer x mine (copies.first_writer s.locks k.client (copies.settled_objects x)) (size_of x.side.file s.meta)
  stage_own (stage.Take h) mine = let p = copies.piece_from h in take_by_answer h p mine (read_answer (copies.target_of s (object_of p)))
  stage_own (stage.Put h bytes) mine = let p = copies.piece_to h in put_by_answer h bytes p mine (write_answer (copies.target_of s (object_of p)) (object_of p).number h.copying.side.layout.generation)
  stage_own (stage.Done key cleared left) mine = done_by_ending cleared left (copy_ends key cleared s.meta)

  merge_fence_by_answer : (x : ComparingView) (next : ℕ) (o : ObjectId) → Ours c x → (a : CallAnswer) → CopyOwn (merges.merge_fences_object k s x next o a)
  merge_fence_by_answer x next o mine answer.Ok = (own, merge_fences_own c x (next + 1) mine)
  merge_fence_by_answer x next o mine (answer.Old kept) = (own, mine)
  merge_fence_by_answer x next o mine answer.Failed = (own, mine)

  merge_settle_by_writer : (x : ComparingView) (next : MergeStage) → MergeOwn c next → (o : Option (ℕ × Range)) → CopyOwn (merges.merge_settles k s x o next)
  merge_settle_by_writer x next mine (Some told) = tt
  merge_settle_by_writer x next mine None = (own, mine)

  our_take_by_answer : (p : Pair) (q : Piece) → Ours c p.comparing → (a : CallAnswer) → CopyOwn (merges.takes_ours k s p q a)
  our_take_by_answer p q mine answer.Ok = (own, theirs_own c p (Some (copies.bytes_in s q)) mine)
  our_take_by_answer p q mine (answer.Old kept) = (own, pairs_own c (merges.our_again p q.component (next_call_on s.targets (object_of q).target)) mine)
  our_take_by_answer p q mine answer.Failed = (own, pairs_own c (merges.our_again p q.component (next_call_on s.targets (object_of q).target)) mine)

  their_take_by_answer : (p : Pair) (ours : Option (List ℕ)) (q : Piece) → Ours c p.comparing → (a : CallAnswer) → CopyOwn (merges.takes_theirs k s p ours q a)
  their_take_by_answer p ours q mine answer.Ok = (own, compares_own c p ours (Some (copies.bytes_in s q)) mine)
  their_take_by_answer p ours q mine (answer.Old kept) = (own, theirs_own c (merges.their_again p q.component (next_call_on s.targets (object_of q).target)) ours mine)
  their_take_by_answer p ours q mine answer.Failed = (own, theirs_own c (merges.their_again p q.component (next_call_on s.targets (object_of q).target)) ours mine)

  merged_by_ending : (o : Ending (List ℕ)) → CopyOwn (merges.ends_merge k s o)
  merged_by_ending (Ends ids after) = tt
  merged_by_ending (Breaks step after) = tt
  merged_by_ending (Holds holder) = tt

  merged_by_refusal : (ours theirs : KeyView) (refusal : Option Reply) → CopyOwn (merges.merge_ends_with k s ours theirs refusal)
  merged_by_refusal ours theirs (Some kept) = tt
  merged_by_refusal ours theirs None = merged_by_ending (merge_ends ours theirs s.meta)

  merge_stage_own : (next : MergeStage) → AreOwn c (merge_keys next) → CopyOwn (merges.merge_stage_at next k s)
  merge_stage_own (merge.Fence x next) mine = let o = (copies.object_at (merge_fences x) next).object in merge_fence_by_answer x next o mine (fence_answer (copies.target_of s o))
  merge_stage_own (merge.Settle x) mine =
      let next = merges.merge_settled x (size_of x.ours.file s.meta) (size_of x.theirs.file s.meta) in
      merge_settle_by_writer x next (merge_settled_own c x mine (size_of x.ours.file s.meta) (size_of x.theirs.file s.meta)) (copies.first_writer s.locks k.client (merge_fences x))
  merge_stage_own (merge.TakeOurs p) mine = let q = merges.our_piece p in our_take_by_answer p q mine (read_answer (copies.target_of s (object_of q)))
  merge_stage_own (merge.TakeTheirs p ours) mine = let q = merges.their_piece p in their_take_by_answer p ours q mine (read_answer (copies.target_of s (object_of q)))
  merge_stage_own (merge.Done ours theirs refusal) mine = merged_by_refusal ours theirs refusal

  begin_by_outcome : (o : meta.Outcome Begun) → BegunOwn c o → CopyOwn (begins k s o)
  begin_by_outcome (Gives begun_as.Nothing after) mine = tt
  begin_by_outcome (Gives (begun_as.Copy side ids) after) mine = (own, fences_own c (begun_copy side ids) 0 mine)
  begin_by_outcome (Gives (begun_as.Merge ours theirs) after) mine = (own, merge_fences_own c (comparing_of ours theirs) 0 mine)
  begin_by_outcome (Refuses refusal) mine = tt
  begin_by_outcome (Waits holder) mine = tt

  pub copy_own : (at : CopyAt) → AreOwn c (copy_keys at) → CopyOwn (copy_at at k s)
  copy_own copying.Begin mine =
      begin_by_outcome (begin.copy_begins k.client k.name k.what s.meta)
      (subst (λ (n : ℕ). BegunOwn c (begin.copy_begins n k.name k.what s.meta)) (sym own) (begin_own c s.meta k.name k.what (file_named k.name s.meta.files)))
  copy_own (copying.Copy next) mine = stage_own next mine
  copy_own (copying.Merge next) mine = merge_stage_own next mine
