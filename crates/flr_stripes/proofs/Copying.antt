-- The steps of a copy keep the objects that it has in hand few.
use Rattle.std.proofs.Common.{◌≡◌, ℕ, ◌+◌, ◌-◌, ◌≤◌, Bool, true, false, cond, nat_lt, ◌==◌, Option, Some, None, List, [], ◌∷◌, ◌++◌, length, drop, refl, arith}
use Rattle.std.specs.Prelude.{unwrap_or}
use Rattle.flr_base.specs.declared.reply.FailedCall.{FailedCall}
use Rattle.flr_base.specs.declared.reply.Left.{Left}
use Rattle.flr_base.specs.declared.reply.ObjectId.{ObjectId}
use Rattle.flr_base.specs.declared.reply.Range.{Range}
use Rattle.flr_base.specs.declared.reply.Reply.{Reply}
use Rattle.flr_base.specs.declared.reply.Reply.TheVariants as reply
use Rattle.composite_layout.specs.declared.component.Component.{Component}
use Rattle.layout_lease.specs.Clients.{IsClient}
use Rattle.layout_lease.specs.Leases.{KeyView}
use Rattle.mirror_select.specs.declared.types.Piece.{Piece}
use Rattle.mirror_select.specs.Candidates.{chosen}
use Rattle.object_target.specs.declared.call.CallAnswer.{CallAnswer}
use Rattle.object_target.specs.declared.call.CallAnswer.TheVariants as answer
use Rattle.object_target.specs.Calls.{fence_answer, read_answer, reset_answer, write_answer}
use Rattle.meta_server.specs.declared.answers.Begun.{Begun}
use Rattle.meta_server.specs.declared.answers.Begun.TheVariants as begun_as
use Rattle.meta_server.specs.Beginning.{copy_begins}
use Rattle.meta_server.specs.Closing.{size_of}
use Rattle.meta_server.specs.Conditions.{IsCopyOf}
use Rattle.meta_server.specs.Ending.{copy_ends, merge_ends}
use Rattle.meta_server.specs.Files.{file_named}
use Rattle.meta_server.specs.Outcomes.{Breaks, Ending, Ends, Gives, Holds, Refuses, Waits}
use Rattle.meta_server.specs.Outcomes as meta
use Rattle.meta_laws.specs.Calls.{IsCopyable}
use Rattle.call_steps.specs.Pieces.{object_of}
use Rattle.call_steps.specs.Servers.{Servers, next_call_on}
use Rattle.resync_copy.specs.declared.merge_phase.MergeStage.{MergeStage}
use Rattle.resync_copy.specs.declared.merge_phase.MergeStage.TheVariants as merge
use Rattle.resync_copy.specs.declared.merge_phase.Pair.{Pair}
use Rattle.resync_copy.specs.declared.parts.CopyObject.{CopyObject}
use Rattle.resync_copy.specs.declared.parts.Destination.{Destination}
use Rattle.resync_copy.specs.declared.phase.Chunk.{Chunk}
use Rattle.resync_copy.specs.declared.phase.CopyAt.{CopyAt}
use Rattle.resync_copy.specs.declared.phase.CopyAt.TheVariants as at
use Rattle.resync_copy.specs.declared.phase.CopyStage.{CopyStage}
use Rattle.resync_copy.specs.declared.phase.CopyStage.TheVariants as stage
use Rattle.resync_copy.specs.Calls.{CopyView}
use Rattle.resync_copy.specs.Chunks.{chunk_of, chunk_start, chunks_between, first_solid}
use Rattle.resync_copy.specs.Comparing.{ComparingView, comparing_of, merge_fences}
use Rattle.resync_copy.specs.Copies.{bytes_in, chunks_from, clears, copies_chunks, copies_each, copies_from, copies_solid, end_of, ends_copy, fences_from, fences_object, first_writer, leaves_at, leaves_over, leaves_with, next_reset, no_call, object_at, piece_from, piece_to, puts_chunk, resets_at, resets_from, resets_object, settled_from, settled_objects, settles, settles_from, stage_at, takes_chunk, takes_from, target_of}
use Rattle.resync_copy.specs.Merges.{compares, compares_sizes, differs, ends_merge, first_difference, first_pair, merge_done, merge_ends_with, merge_fences_from, merge_fences_object, merge_settled, merge_settles, merge_stage_at, next_pair, our_again, our_piece, our_source, pair_at, pairs_at, pairs_from, range_of, is_solid, starts_pair, starts_theirs, takes_ours, takes_theirs, their_again, their_piece, their_source, theirs_by, theirs_from}
use Rattle.resync_copy.specs.Parts.{all_left, destination_at, is_kept}
use Rattle.resync_copy.specs.Steps.{begins, copy_at}
use Rattle.resync_copy.specs.Views.{CopyingView, begun_copy, fences_of, resets_of}
use Rattle.copy_laws.proofs.Begins.{of_file}
use Rattle.flr_numbers.specs.Copies.{copy_hand}
use Rattle.flr_numbers.specs.Hands.{AreServers, Has, HasRoom}
use Rattle.flr_numbers.proofs.Begins.{may}
use Rattle.flr_bound.proofs.Outcomes.{OnLeft, OnNext}
use Rattle.flr_stripes.specs.Sentences.{CopiesFewAt, HoldsFewAt, MergesFewAt}
use Rattle.flr_stripes.proofs.Files.{BeginsIn, HasAtMost, apart_few, begins_in, lies_few, lies_valid}
use Rattle.flr_stripes.proofs.Listing.{begun_few, compared_both}

module _ (n : ℕ) where
  -- ---- what comes next in a copy

  settles_few : (x : CopyingView) → HoldsFewAt n (settles_from x)
  settles_few x = by (all_left x.destinations)
    where
      by : (b : Bool) → HoldsFewAt n (cond b (clears x) (stage.Settle x))
      by true = tt
      by false = tt

  resets_few : (x : CopyingView) (place : ℕ) → length (resets_of x) ≤ n → HoldsFewAt n (resets_from x place)
  resets_few x place few = by (next_reset x place)
    where
      by : (o : Option ℕ) → HoldsFewAt n (resets_at x o)
      by (Some next) = few
      by None = settles_few x

  fences_few : (x : CopyingView) (next : ℕ) → length (fences_of x) + length (resets_of x) ≤ n → HoldsFewAt n (fences_from x next)
  fences_few x next few = by (nat_lt next (length (fences_of x)))
    where
      by : (b : Bool) → HoldsFewAt n (cond b (stage.Fence x next) (resets_from x 0))
      by true = few
      by false = resets_few x 0 (omega (arith, few))

  module _ (size place : ℕ) (failed : List ℕ) (last : Option FailedCall) (others : CopyingView → CopyStage) (rest : (x : CopyingView) → HoldsFewAt n (others x)) where
    taken_few : (x : CopyingView) (number : ℕ) (o : Option Component) → HoldsFewAt n (takes_from size place failed last others x number o)
    taken_few x number (Some source) = tt
    taken_few x number None = rest (leaves_at x place (unwrap_or last no_call))

    solid_few : (x : CopyingView) (o : Option ℕ) → HoldsFewAt n (copies_solid size place failed last others x o)
    solid_few x (Some number) = taken_few x number (chosen x.side.layout.components failed (chunk_start number))
    solid_few x None = rest x

    chunked_few : (x : CopyingView) (chunks : List ℕ) → HoldsFewAt n (copies_chunks size place failed last others x chunks)
    chunked_few x chunks = solid_few x (first_solid x.side.layout.components failed chunks)

  each_few : (size place : ℕ) (ds : List Destination) (x : CopyingView) → HoldsFewAt n (copies_each size place ds x)
  each_few size place [] x = tt
  each_few size place (d ∷ ds) x = by (is_kept d) (each_few size (place + 1) ds)
    where
      by : (b : Bool) → ((y : CopyingView) → HoldsFewAt n (copies_each size (place + 1) ds y))
          → HoldsFewAt n (cond b (copies_chunks size place [] None (copies_each size (place + 1) ds) x (chunks_between (chunk_of d.extent.start) (end_of size d))) (copies_each size (place + 1) ds x))
      by true rest = chunked_few size place [] None (copies_each size (place + 1) ds) rest x (chunks_between (chunk_of d.extent.start) (end_of size d))
      by false rest = rest x

  from_few : (size place : ℕ) (x : CopyingView) → HoldsFewAt n (copies_from size place x)
  from_few size place x = each_few size place (drop place x.destinations) x

  chunks_few : (size place : ℕ) (failed : List ℕ) (last : Option FailedCall) (number : ℕ) (x : CopyingView) → HoldsFewAt n (chunks_from size place failed last number x)
  chunks_few size place failed last number x =
      chunked_few size place failed last (copies_from size (place + 1)) (from_few size (place + 1)) x (chunks_between number (end_of size (destination_at x.destinations place)))

  settled_few : (x : CopyingView) (size : Option ℕ) → HoldsFewAt n (settled_from x size)
  settled_few x (Some size) = from_few size 0 x
  settled_few x None = tt

  -- ---- what comes next in a merge

  merge_fences_few : (x : ComparingView) (next : ℕ) → length (merge_fences x) ≤ n → MergesFewAt n (merge_fences_from x next)
  merge_fences_few x next few = by (nat_lt next (length (merge_fences x)))
    where
      by : (b : Bool) → MergesFewAt n (cond b (merge.Fence x next) (merge.Settle x))
      by true = few
      by false = tt

  starts_theirs_few : (p : Pair) (o : Option Bool) → MergesFewAt n (starts_theirs p o)
  starts_theirs_few p None = tt
  starts_theirs_few p (Some solid) = tt

  starts_few : (p : Pair) (ours theirs : Option Bool) → MergesFewAt n (starts_pair p ours theirs)
  starts_few p None theirs = tt
  starts_few p (Some true) theirs = tt
  starts_few p (Some false) theirs = starts_theirs_few p theirs

  pairs_few : (p : Pair) → MergesFewAt n (pairs_from p)
  pairs_few p = by (next_pair p)
    where
      by : (o : Option ℕ) → MergesFewAt n (pairs_at p o)
      by (Some number) = starts_few (pair_at p number) (is_solid (our_source (pair_at p number))) (is_solid (their_source (pair_at p number)))
      by None = tt

  compares_few : (p : Pair) (ours theirs : Option (List ℕ)) → MergesFewAt n (compares p ours theirs)
  compares_few p ours theirs = by (first_difference ((range_of p).end - (range_of p).start) ours theirs)
    where
      by : (o : Option ℕ) → MergesFewAt n (differs p ours theirs o)
      by (Some place) = tt
      by None = pairs_few (pair_at p (p.number + 1))

  theirs_few : (p : Pair) (ours : Option (List ℕ)) → MergesFewAt n (theirs_from p ours)
  theirs_few p ours = by (is_solid (their_source p))
    where
      by : (o : Option Bool) → MergesFewAt n (theirs_by p ours o)
      by None = tt
      by (Some true) = tt
      by (Some false) = compares_few p ours None

  sizes_few : (x : ComparingView) (ours theirs : ℕ) → MergesFewAt n (compares_sizes x ours theirs)
  sizes_few x ours theirs = by (ours == theirs)
    where
      by : (b : Bool) → MergesFewAt n (cond b (pairs_from (first_pair x ours)) (merge_done x (Some (reply.Sizes ours theirs))))
      by true = pairs_few (first_pair x ours)
      by false = tt

  merge_settled_few : (x : ComparingView) (ours theirs : Option ℕ) → MergesFewAt n (merge_settled x ours theirs)
  merge_settled_few x (Some ours) (Some theirs) = sizes_few x ours theirs
  merge_settled_few x (Some ours) None = tt
  merge_settled_few x None theirs = tt

  -- ---- steps

  -- the copy has few objects in hand
  abbrev Few : CopyView → Type 0
  Few x = CopiesFewAt n x.at

  module _ (k : CopyView) (s : Servers) where
    fencing_few : (x : CopyingView) (next : ℕ) (o : CopyObject) (a : CallAnswer) → length (fences_of x) + length (resets_of x) ≤ n → OnNext Few (fences_object k s x next o a)
    fencing_few x next o answer.Ok few = fences_few x (next + 1) few
    fencing_few x next o (answer.Old kept) few = fences_few (leaves_over x o.extent (next_call_on s.targets o.object.target)) (next + 1) few
    fencing_few x next o answer.Failed few = fences_few (leaves_over x o.extent (next_call_on s.targets o.object.target)) (next + 1) few

    resetting_few : (x : CopyingView) (next : ℕ) (o : CopyObject) (a : CallAnswer) → length (resets_of x) ≤ n → OnNext Few (resets_object k s x next o a)
    resetting_few x next o answer.Ok few = resets_few x (next + 1) few
    resetting_few x next o (answer.Old kept) few = tt
    resetting_few x next o answer.Failed few = resets_few (leaves_with x o.component (next_call_on s.targets o.object.target)) (next + 1) few

    settling_few : (x : CopyingView) (o : Option (ℕ × Range)) (size : Option ℕ) → OnNext Few (settles k s x o size)
    settling_few x (Some told) size = tt
    settling_few x None size = settled_few x size

    taking_few : (h : Chunk) (p : Piece) (a : CallAnswer) → OnNext Few (takes_chunk k s h p a)
    taking_few h p answer.Ok = tt
    taking_few h p (answer.Old kept) = chunks_few h.size h.place (h.failed ++ p.component ∷ []) (Some (next_call_on s.targets (object_of p).target)) h.number h.copying
    taking_few h p answer.Failed = chunks_few h.size h.place (h.failed ++ p.component ∷ []) (Some (next_call_on s.targets (object_of p).target)) h.number h.copying

    putting_few : (h : Chunk) (bytes : List ℕ) (p : Piece) (a : CallAnswer) → OnNext Few (puts_chunk k s h bytes p a)
    putting_few h bytes p answer.Ok = chunks_few h.size h.place h.failed h.last (h.number + 1) h.copying
    putting_few h bytes p (answer.Old kept) = tt
    putting_few h bytes p answer.Failed = from_few h.size (h.place + 1) (leaves_at h.copying h.place (next_call_on s.targets (object_of p).target))

    ending_few : (cleared : List ℕ) (left : List Left) (o : Ending (Unit {0})) → OnNext Few (ends_copy k s cleared left o)
    ending_few cleared left (Ends done after) = tt
    ending_few cleared left (Breaks step after) = tt
    ending_few cleared left (Holds holder) = tt

    stage_few : (next : CopyStage) → HoldsFewAt n next → OnNext Few (stage_at next k s)
    stage_few (stage.Fence x next) few = fencing_few x next (object_at (fences_of x) next) (fence_answer (target_of s (object_at (fences_of x) next).object)) few
    stage_few (stage.Reset x next) few = resetting_few x next (object_at (resets_of x) next) (reset_answer (target_of s (object_at (resets_of x) next).object) (object_at (resets_of x) next).object.number x.side.layout.generation) few
    stage_few (stage.Settle x) few = settling_few x (first_writer s.locks k.client (settled_objects x)) (size_of x.side.file s.meta)
    stage_few (stage.Take h) few = taking_few h (piece_from h) (read_answer (target_of s (object_of (piece_from h))))
    stage_few (stage.Put h bytes) few = putting_few h bytes (piece_to h) (write_answer (target_of s (object_of (piece_to h))) (object_of (piece_to h)).number h.copying.side.layout.generation)
    stage_few (stage.Done key cleared left) few = ending_few cleared left (copy_ends key cleared s.meta)

    merge_fencing_few : (x : ComparingView) (next : ℕ) (o : ObjectId) (a : CallAnswer) → length (merge_fences x) ≤ n → OnNext Few (merge_fences_object k s x next o a)
    merge_fencing_few x next o answer.Ok few = merge_fences_few x (next + 1) few
    merge_fencing_few x next o (answer.Old kept) few = tt
    merge_fencing_few x next o answer.Failed few = tt

    merge_settling_few : (x : ComparingView) (o : Option (ℕ × Range)) (next : MergeStage) → MergesFewAt n next → OnNext Few (merge_settles k s x o next)
    merge_settling_few x (Some told) next few = tt
    merge_settling_few x None next few = few

    taking_ours_few : (p : Pair) (q : Piece) (a : CallAnswer) → OnNext Few (takes_ours k s p q a)
    taking_ours_few p q answer.Ok = theirs_few p (Some (bytes_in s q))
    taking_ours_few p q (answer.Old kept) = pairs_few (our_again p q.component (next_call_on s.targets (object_of q).target))
    taking_ours_few p q answer.Failed = pairs_few (our_again p q.component (next_call_on s.targets (object_of q).target))

    taking_theirs_few : (p : Pair) (ours : Option (List ℕ)) (q : Piece) (a : CallAnswer) → OnNext Few (takes_theirs k s p ours q a)
    taking_theirs_few p ours q answer.Ok = compares_few p ours (Some (bytes_in s q))
    taking_theirs_few p ours q (answer.Old kept) = theirs_few (their_again p q.component (next_call_on s.targets (object_of q).target)) ours
    taking_theirs_few p ours q answer.Failed = theirs_few (their_again p q.component (next_call_on s.targets (object_of q).target)) ours

    merge_ending_few : (o : Ending (List ℕ)) → OnNext Few (ends_merge k s o)
    merge_ending_few (Ends ids after) = tt
    merge_ending_few (Breaks step after) = tt
    merge_ending_few (Holds holder) = tt

    merge_done_few : (ours theirs : KeyView) (refusal : Option Reply) → OnNext Few (merge_ends_with k s ours theirs refusal)
    merge_done_few ours theirs (Some kept) = tt
    merge_done_few ours theirs None = merge_ending_few (merge_ends ours theirs s.meta)

    merge_few : (next : MergeStage) → MergesFewAt n next → OnNext Few (merge_stage_at next k s)
    merge_few (merge.Fence x next) few = merge_fencing_few x next (object_at (merge_fences x) next).object (fence_answer (target_of s (object_at (merge_fences x) next).object)) few
    merge_few (merge.Settle x) few = merge_settling_few x (first_writer s.locks k.client (merge_fences x)) (merge_settled x (size_of x.ours.file s.meta) (size_of x.theirs.file s.meta)) (merge_settled_few x (size_of x.ours.file s.meta) (size_of x.theirs.file s.meta))
    merge_few (merge.TakeOurs p) few = taking_ours_few p (our_piece p) (read_answer (target_of s (object_of (our_piece p))))
    merge_few (merge.TakeTheirs p ours) few = taking_theirs_few p ours (their_piece p) (read_answer (target_of s (object_of (their_piece p))))
    merge_few (merge.Done ours theirs refusal) few = merge_done_few ours theirs refusal

    begins_few : (o : meta.Outcome Begun) → copy_begins k.client k.name k.what s.meta ≡ o → BeginsIn o → OnLeft (HasAtMost n) (begins k s o) → OnNext Few (begins k s o)
    begins_few (Gives begun_as.Nothing after) e is most = tt
    begins_few (Gives (begun_as.Copy side ids) after) e is most =
        let listed = begun_few side ids (of_file k.client s.meta side ids after k.name k.what (file_named k.name s.meta.files) e) (lies_valid after side.layout most.sound is) in
        let objects = lies_few after side.layout most.sound is in
        let stripes = most.few in
        fences_few (begun_copy side ids) 0 (omega (arith, listed, objects, stripes))
    begins_few (Gives (begun_as.Merge ours theirs) after) e is most =
        let listed = compared_both (comparing_of ours theirs) (lies_valid after ours.layout most.sound is.first) (lies_valid after theirs.layout most.sound is.second) in
        let objects = apart_few after ours.layout theirs.layout most.sound is in
        let stripes = most.few in
        merge_fences_few (comparing_of ours theirs) 0 (omega (arith, listed, objects, stripes))
    begins_few (Refuses refusal) e is most = tt
    begins_few (Waits holder) e is most = tt

    -- each step of a copy
    pub copy_few : IsClient k.client → HasRoom s.meta → AreServers s.meta s.targets → IsCopyOf k.name k.what → IsCopyable k.what → (a : CopyAt) → Has k.client s.meta s.locks (copy_hand a) → CopiesFewAt n a → OnLeft (HasAtMost n) (copy_at a k s) → OnNext Few (copy_at a k s)
    copy_few is room h asked able at.Begin has few most = begins_few (copy_begins k.client k.name k.what s.meta) refl (begins_in k.client k.name k.what s.meta h.sound (may k.client s is room h has k.name k.what asked able)) most
    copy_few is room h asked able (at.Copy next) has few most = stage_few next few
    copy_few is room h asked able (at.Merge next) has few most = merge_few next few
