-- The steps of an extend by a victim: begin, a fence for each object of the fresh components of both files, settle, a take from each file for each chunk, done.
use Rattle.std.specs.Prelude.{ℕ, ◌+◌, ◌-◌, ◌==◌, nat_eq, nat_lt, Bool, true, false, not, ◌&&◌, List, [], ◌∷◌, ◌++◌, length, find, Option, None, Some, option_map, unwrap_or, slice_index_or, if◌then◌else◌}
use Rattle.std.specs.List.{range_with_len}
use Rattle.std.specs.Option.{option_map_or}
use Rattle.flr_base.specs.declared.reply.FailedCall.{FailedCall}
use Rattle.flr_base.specs.declared.reply.ObjectId.{ObjectId}
use Rattle.flr_base.specs.declared.reply.Range.{Range}
use Rattle.flr_base.specs.declared.reply.Reply.{Reply}
use Rattle.flr_base.specs.declared.reply.Reply.TheVariants as reply
use Rattle.composite_layout.specs.declared.component.Component.{Component}
use Rattle.layout_lease.specs.declared.lease.KeyState.{KeyState}
use Rattle.layout_lease.specs.declared.lease.KeyState.TheVariants.{Held, Broken}
use Rattle.layout_lease.specs.Leases.{KeyView, state_of}
use Rattle.mirror_select.specs.declared.types.Piece.{Piece}
use Rattle.mirror_select.specs.Candidates.{chosen}
use Rattle.object_target.specs.declared.call.CallAnswer.{CallAnswer}
use Rattle.object_target.specs.declared.call.CallAnswer.TheVariants as answer
use Rattle.object_target.specs.Calls.{after_fence, fence_answer, read_answer}
use Rattle.meta_server.specs.Closing.{size_of}
use Rattle.meta_server.specs.Ending.{both_given, merge_ends}
use Rattle.meta_server.specs.Outcomes.{Ending, Ends, Breaks, Holds}
use Rattle.call_steps.specs.Pieces.{object_of}
use Rattle.call_steps.specs.Servers.{Servers, next_call_on, with_target}
use Rattle.call_steps.specs.Steps.{Outcome, Going, Answered, Blocked}
use Rattle.resync_copy.specs.declared.merge_phase.MergeStage.{MergeStage}
use Rattle.resync_copy.specs.declared.merge_phase.MergeStage.TheVariants as merge
use Rattle.resync_copy.specs.declared.merge_phase.Pair.{Pair}
use Rattle.resync_copy.specs.declared.phase.CopyAt.TheVariants as at
use Rattle.resync_copy.specs.Calls.{CopyView}
use Rattle.resync_copy.specs.Chunks.{chunk_range, chunk_start, chunks_between, is_hole, piece_in}
use Rattle.resync_copy.specs.Comparing.{ComparingView, merge_fences, version_at}
use Rattle.resync_copy.specs.Copies.{bytes_in, first_writer, no_call, object_at, piece_read, target_of}

-- ---- what comes next

-- done is next, with this refusal kept, or none
abbrev pub merge_done : ComparingView → Option Reply → MergeStage
merge_done x refusal = merge.Done x.ours.key x.theirs.key refusal

-- done is next, for this call that failed
abbrev pub faults : ComparingView → FailedCall → MergeStage
faults x call = merge_done x (Some (reply.CopyFault call))

-- with the fences up to this one made: this one; behind the last settle
abbrev pub merge_fences_from : ComparingView → ℕ → MergeStage
merge_fences_from x next = if nat_lt next (length (merge_fences x)) then merge.Fence x next else merge.Settle x

-- who answers the first byte of our chunk, and of theirs
abbrev pub our_source : Pair → Option Component
our_source p = chosen p.comparing.ours.layout.components p.our_failed (chunk_start p.number)

abbrev pub their_source : Pair → Option Component
their_source p = chosen p.comparing.theirs.layout.components p.their_failed (chunk_start p.number)

-- whether who answers has objects; where nobody answers there is nothing to tell
abbrev pub is_solid : Option Component → Option Bool
is_solid source = option_map (λ (c : Component). c.flags.init) source

-- nobody answers any more: the last call that failed is kept
abbrev pub has_no_source : Pair → MergeStage
has_no_source p = faults p.comparing (unwrap_or p.last no_call)

-- their take is next; what we have there is in hand
abbrev pub starts_theirs : Pair → Option Bool → MergeStage
starts_theirs p None = has_no_source p
starts_theirs p (Some solid) = merge.TakeTheirs p None

-- our take is next, or their take where we have a hole
abbrev pub starts_pair : Pair → Option Bool → Option Bool → MergeStage
starts_pair p None theirs = has_no_source p
starts_pair p (Some true) theirs = merge.TakeOurs p
starts_pair p (Some false) theirs = starts_theirs p theirs

-- the pair of chunks with this number
abbrev pub pair_at : Pair → ℕ → Pair
pair_at p number = record p { number = number }

-- both files have a hole there
abbrev pub are_holes : Pair → ℕ → Bool
are_holes p chunk = is_hole p.comparing.ours.layout.components p.our_failed chunk && is_hole p.comparing.theirs.layout.components p.their_failed chunk

-- from this chunk on, the first of which one file at least has bytes
abbrev pub next_pair : Pair → Option ℕ
next_pair p = find (λ chunk. not (are_holes p chunk)) (chunks_between p.number p.size)

-- that one; where there is none, done, with nothing that refuses
abbrev pub pairs_at : Pair → Option ℕ → MergeStage
pairs_at p (Some number) = starts_pair (pair_at p number) (is_solid (our_source (pair_at p number))) (is_solid (their_source (pair_at p number)))
pairs_at p None = merge_done p.comparing None

-- the chunks from this one on
abbrev pub pairs_from : Pair → MergeStage
pairs_from p = pairs_at p (next_pair p)

-- the bytes of the files that the chunk has
abbrev pub range_of : Pair → Range
range_of p = chunk_range p.number p.size

-- the byte at this place of a chunk; a hole has zeros
abbrev pub byte_at : Option (List ℕ) → ℕ → ℕ
byte_at bytes place = option_map_or (λ (some : List ℕ). slice_index_or some place 0) bytes 0

-- the first of so many places at which two chunks differ
abbrev pub first_difference : ℕ → Option (List ℕ) → Option (List ℕ) → Option ℕ
first_difference long ours theirs = find (λ place. not (nat_eq (byte_at ours place) (byte_at theirs place))) (range_with_len 0 long)

-- at the first difference done is next, which keeps the two bytes; else the next chunk
abbrev pub differs : Pair → Option (List ℕ) → Option (List ℕ) → Option ℕ → MergeStage
differs p ours theirs (Some place) = merge_done p.comparing (Some (reply.DifferAt ((range_of p).start + place) (byte_at ours place) (byte_at theirs place)))
differs p ours theirs None = pairs_from (pair_at p (p.number + 1))

abbrev pub compares : Pair → Option (List ℕ) → Option (List ℕ) → MergeStage
compares p ours theirs = differs p ours theirs (first_difference ((range_of p).end - (range_of p).start) ours theirs)

-- with our bytes in hand: their take, or where they have a hole the bytes are compared
abbrev pub theirs_by : Pair → Option (List ℕ) → Option Bool → MergeStage
theirs_by p ours None = has_no_source p
theirs_by p ours (Some true) = merge.TakeTheirs p ours
theirs_by p ours (Some false) = compares p ours None

abbrev pub theirs_from : Pair → Option (List ℕ) → MergeStage
theirs_from p ours = theirs_by p ours (is_solid (their_source p))

-- ---- the call

-- the call, with this to do next
abbrev pub merge_on : CopyView → MergeStage → CopyView
merge_on c next = record c { at = at.Merge next }

-- ---- fence: the object keeps the generation of its file's begin; where that fails, done is next

abbrev pub merge_fenced : Servers → ObjectId → ℕ → Servers
merge_fenced s o version = with_target s o.target (after_fence (target_of s o) o.number version)

abbrev pub merge_fences_object : CopyView → Servers → ComparingView → ℕ → ObjectId → CallAnswer → Outcome CopyView
merge_fences_object c s x next o answer.Ok = Going (merge_on c (merge_fences_from x (next + 1))) (merge_fenced s o (version_at x next))
merge_fences_object c s x next o other = Going (merge_on c (faults x (next_call_on s.targets o.target))) (merge_fenced s o (version_at x next))

-- ---- settle: nobody else writes to a fenced object; both sizes are what the files have here. Where a file is gone, done is next, where its lease will be found broken

-- the first chunk, with nobody failed
abbrev pub first_pair : ComparingView → ℕ → Pair
first_pair x size = record { comparing = x; size = size; number = 0; our_failed = []; their_failed = []; last = None }

abbrev pub compares_sizes : ComparingView → ℕ → ℕ → MergeStage
compares_sizes x ours theirs = if ours == theirs then pairs_from (first_pair x ours) else merge_done x (Some (reply.Sizes ours theirs))

abbrev pub merge_settled : ComparingView → Option ℕ → Option ℕ → MergeStage
merge_settled x (Some ours) (Some theirs) = compares_sizes x ours theirs
merge_settled x (Some ours) None = merge_done x None
merge_settled x None theirs = merge_done x None

abbrev pub merge_settles : CopyView → Servers → ComparingView → Option (ℕ × Range) → MergeStage → Outcome CopyView
merge_settles c s x (Some told) next = Blocked told.0
merge_settles c s x None next = Going (merge_on c next) s

-- ---- the takes: the chunk's bytes from its source, by the layout of begin and without those that failed; where that fails, another source is taken

abbrev pub our_piece : Pair → Piece
our_piece p = piece_in (our_source p) (range_of p)

abbrev pub their_piece : Pair → Piece
their_piece p = piece_in (their_source p) (range_of p)

-- the pair once more, without this source of ours, or of theirs
abbrev pub our_again : Pair → ℕ → FailedCall → Pair
our_again p source call = record p { our_failed = p.our_failed ++ source ∷ []; last = Some call }

abbrev pub their_again : Pair → ℕ → FailedCall → Pair
their_again p source call = record p { their_failed = p.their_failed ++ source ∷ []; last = Some call }

abbrev pub takes_ours : CopyView → Servers → Pair → Piece → CallAnswer → Outcome CopyView
takes_ours c s p q answer.Ok = Going (merge_on c (theirs_from p (Some (bytes_in s q)))) (piece_read s q)
takes_ours c s p q other = Going (merge_on c (pairs_from (our_again p q.component (next_call_on s.targets (object_of q).target)))) (piece_read s q)

abbrev pub takes_theirs : CopyView → Servers → Pair → Option (List ℕ) → Piece → CallAnswer → Outcome CopyView
takes_theirs c s p ours q answer.Ok = Going (merge_on c (compares p ours (Some (bytes_in s q)))) (piece_read s q)
takes_theirs c s p ours q other = Going (merge_on c (theirs_from (their_again p q.component (next_call_on s.targets (object_of q).target)) ours)) (piece_read s q)

-- ---- done, the point: a lease is broken, ours before theirs; or there is a refusal; or their file is taken in by ours

-- a refusal gives both keys up, and is answered unless a lease is broken
abbrev pub kept_answer : Reply → KeyState → KeyState → Reply
kept_answer kept (Broken step) other = reply.Broken step
kept_answer kept Held (Broken step) = reply.Broken step
kept_answer kept Held Held = kept

abbrev pub ends_merge : CopyView → Servers → Ending (List ℕ) → Outcome CopyView
ends_merge c s (Ends ids after) = Answered (reply.Merged ids) [] (record s { meta = after })
ends_merge c s (Breaks step after) = Answered (reply.Broken step) [] (record s { meta = after })
ends_merge c s (Holds holder) = Blocked holder

abbrev pub merge_ends_with : CopyView → Servers → KeyView → KeyView → Option Reply → Outcome CopyView
merge_ends_with c s ours theirs (Some kept) = Answered (kept_answer kept (state_of s.meta.leases ours) (state_of s.meta.leases theirs)) [] (record s { meta = both_given ours theirs s.meta })
merge_ends_with c s ours theirs None = ends_merge c s (merge_ends ours theirs s.meta)

-- ---- each step

abbrev pub merge_stage_at : MergeStage → CopyView → Servers → Outcome CopyView
merge_stage_at (merge.Fence x next) c s = merge_fences_object c s x next (object_at (merge_fences x) next).object (fence_answer (target_of s (object_at (merge_fences x) next).object))
merge_stage_at (merge.Settle x) c s = merge_settles c s x (first_writer s.locks c.client (merge_fences x)) (merge_settled x (size_of x.ours.file s.meta) (size_of x.theirs.file s.meta))
merge_stage_at (merge.TakeOurs p) c s = takes_ours c s p (our_piece p) (read_answer (target_of s (object_of (our_piece p))))
merge_stage_at (merge.TakeTheirs p ours) c s = takes_theirs c s p ours (their_piece p) (read_answer (target_of s (object_of (their_piece p))))
merge_stage_at (merge.Done ours theirs refusal) c s = merge_ends_with c s ours theirs refusal
