-- The steps of a resync and of an extend by copy, once they have begun: a fence for each object that overlaps a destination, a reset for each object of a destination, settle, a take and a put for each chunk, done.
use Rattle.std.specs.Prelude.{ℕ, ◌+◌, nat_lt, min, List, [], ◌∷◌, ◌++◌, length, filter, drop, Option, None, Some, option_map, position, unwrap_or, slice_index, slice_index_or, if◌then◌else◌}
use Rattle.std.specs.Option.{option_or}
use Rattle.flr_base.specs.Bytes.{piece}
use Rattle.flr_base.specs.declared.reply.FailedCall.{FailedCall}
use Rattle.flr_base.specs.declared.reply.Left.{Left}
use Rattle.flr_base.specs.declared.reply.ObjectId.{ObjectId}
use Rattle.flr_base.specs.declared.reply.Range.{Range}
use Rattle.flr_base.specs.declared.reply.Reply.TheVariants as reply
use Rattle.composite_layout.specs.declared.component.Component.{Component}
use Rattle.mirror_select.specs.declared.types.Piece.{Piece}
use Rattle.mirror_select.specs.Candidates.{chosen}
use Rattle.object_target.specs.declared.call.CallAnswer.{CallAnswer}
use Rattle.object_target.specs.declared.call.CallAnswer.TheVariants as answer
use Rattle.object_target.specs.TargetState.{TargetState, bytes_at}
use Rattle.object_target.specs.Calls.{after_fence, after_read, after_reset, after_write, fence_answer, read_answer, reset_answer, write_answer}
use Rattle.extent_lock.specs.declared.lock.Lock.{Lock}
use Rattle.extent_lock.specs.Extents.{writer_but}
use Rattle.meta_server.specs.declared.answers.CopyWhat.{CopyWhat}
use Rattle.meta_server.specs.Closing.{size_of}
use Rattle.meta_server.specs.Ending.{copy_ends}
use Rattle.meta_server.specs.Outcomes.{Ending, Ends, Breaks, Holds}
use Rattle.call_steps.specs.Pieces.{length_of, object_of}
use Rattle.call_steps.specs.Servers.{Servers, next_call_on, target_at, with_target}
use Rattle.call_steps.specs.Steps.{Outcome, Going, Answered, Blocked}
use Rattle.resync_copy.specs.declared.parts.CopyObject.{CopyObject}
use Rattle.resync_copy.specs.declared.parts.Destination.{Destination}
use Rattle.resync_copy.specs.declared.phase.Asked.{Asked}
use Rattle.resync_copy.specs.declared.phase.Chunk.{Chunk}
use Rattle.resync_copy.specs.declared.phase.CopyAt.{CopyAt}
use Rattle.resync_copy.specs.declared.phase.CopyAt.TheVariants as at
use Rattle.resync_copy.specs.declared.phase.CopyStage.{CopyStage}
use Rattle.resync_copy.specs.declared.phase.CopyStage.TheVariants as stage
use Rattle.resync_copy.specs.Calls.{CopyView}
use Rattle.resync_copy.specs.Chunks.{chunk_of, chunk_range, chunk_start, chunks_between, first_solid, piece_in}
use Rattle.resync_copy.specs.Parts.{all_left, cleared_of, destination_at, is_kept, is_open, left_at, left_over, left_with, lefts_of, overlaps_kept, with_id}
use Rattle.resync_copy.specs.Views.{CopyingView, fences_of, resets_of, with_destinations}

-- ---- what comes next

-- an object of a component by its place; behind the last there is none
abbrev pub object_at : List CopyObject → ℕ → CopyObject
object_at objects place = slice_index_or objects place (record { component = 0; extent = record { start = 0; end = 0 }; object = record { target = 0; number = 0 } })

-- done is next, with the destinations cleared that aren't left
abbrev pub clears : CopyingView → CopyStage
clears x = stage.Done x.side.key (cleared_of x.destinations) (lefts_of x.destinations)

-- done is next, with nothing to clear: after a call that was too old, or where the file is gone
abbrev pub clears_none : CopyingView → CopyStage
clears_none x = stage.Done x.side.key [] (lefts_of x.destinations)

-- with all resets made: settle, unless every destination is left
abbrev pub settles_from : CopyingView → CopyStage
settles_from x = if all_left x.destinations then clears x else stage.Settle x

-- the place of the first object from this one on whose component isn't left
abbrev pub next_reset : CopyingView → ℕ → Option ℕ
next_reset x place = option_map (λ i. place + i) (position (λ (o : CopyObject). is_open x.destinations o.component) (drop place (resets_of x)))

abbrev pub resets_at : CopyingView → Option ℕ → CopyStage
resets_at x (Some next) = stage.Reset x next
resets_at x None = settles_from x

-- with the resets up to this one made: the next one of a destination that isn't left
abbrev pub resets_from : CopyingView → ℕ → CopyStage
resets_from x place = resets_at x (next_reset x place)

-- with the fences up to this one made: this one; behind the last the resets
abbrev pub fences_from : CopyingView → ℕ → CopyStage
fences_from x next = if nat_lt next (length (fences_of x)) then stage.Fence x next else resets_from x 0

-- no call: the one for which a destination would be left that nobody can answer and no take of which failed. That this doesn't come up is no law of this crate
abbrev pub no_call : FailedCall
no_call = record { target = 0; call = 0 }

-- the copy with the destination at this place left
abbrev pub leaves_at : CopyingView → ℕ → FailedCall → CopyingView
leaves_at x place call = with_destinations x (left_at place call x.destinations)

-- where the bytes end that are copied to a destination: with its extent, or with the file
abbrev pub end_of : ℕ → Destination → ℕ
end_of size d = min d.extent.end size

module _ (size place : ℕ) (failed : List ℕ) (last : Option FailedCall) (others : CopyingView → CopyStage) where
  -- the chunk is taken from its source. Where it has none, the destination is left with its last failed take, and the others follow
  abbrev pub takes_from : CopyingView → ℕ → Option Component → CopyStage
  takes_from x number (Some c) = stage.Take (record { copying = x; size = size; place = place; number = number; failed = failed; last = last })
  takes_from x number None = others (leaves_at x place (unwrap_or last no_call))

  -- the first chunk that isn't a hole is next; where there is none, the others follow
  abbrev pub copies_solid : CopyingView → Option ℕ → CopyStage
  copies_solid x (Some number) = takes_from x number (chosen x.side.layout.components failed (chunk_start number))
  copies_solid x None = others x

  -- of these chunks the first that isn't a hole
  abbrev pub copies_chunks : CopyingView → List ℕ → CopyStage
  copies_chunks x chunks = copies_solid x (first_solid x.side.layout.components failed chunks)

-- the destinations from this place on that aren't left are copied in order, each from its first chunk and with nobody failed; then done
abbrev pub copies_each : ℕ → ℕ → List Destination → CopyingView → CopyStage
copies_each size place [] x = clears x
copies_each size place (d ∷ ds) x =
    if is_kept d
    then copies_chunks size place [] None (copies_each size (place + 1) ds) x (chunks_between (chunk_of d.extent.start) (end_of size d))
    else copies_each size (place + 1) ds x

-- the destinations from this place on
abbrev pub copies_from : ℕ → ℕ → CopyingView → CopyStage
copies_from size place x = copies_each size place (drop place x.destinations) x

-- the chunks of a destination from this one on, and then the others behind it
abbrev pub chunks_from : ℕ → ℕ → List ℕ → Option FailedCall → ℕ → CopyingView → CopyStage
chunks_from size place failed last number x =
    copies_chunks size place failed last (copies_from size (place + 1)) x (chunks_between number (end_of size (destination_at x.destinations place)))

-- ---- the call

-- a copy before its first step
abbrev pub new_copy : ℕ → List ℕ → CopyWhat → CopyView
new_copy client name what = record { client = client; name = name; what = what; at = at.Begin }

-- what is asked, as a copy with this to do next
abbrev pub copy_by : Asked → CopyAt → CopyView
copy_by a next = record { client = a.client; name = a.name; what = a.what; at = next }

-- the copy, with this to do next
abbrev pub copy_on : CopyView → CopyStage → CopyView
copy_on c next = record c { at = at.Copy next }

-- ---- fence: the object keeps the generation of begin; where that fails, each destination that overlaps the component is left

-- the target that has an object
abbrev pub target_of : Servers → ObjectId → TargetState
target_of s o = target_at s.targets o.target

abbrev pub fenced : Servers → CopyingView → ObjectId → Servers
fenced s x o = with_target s o.target (after_fence (target_of s o) o.number x.side.layout.generation)

-- the copy with the destinations left that overlap these bytes
abbrev pub leaves_over : CopyingView → Range → FailedCall → CopyingView
leaves_over x range call = with_destinations x (left_over range call x.destinations)

abbrev pub fences_object : CopyView → Servers → CopyingView → ℕ → CopyObject → CallAnswer → Outcome CopyView
fences_object c s x next o answer.Ok = Going (copy_on c (fences_from x (next + 1))) (fenced s x o.object)
fences_object c s x next o other = Going (copy_on c (fences_from (leaves_over x o.extent (next_call_on s.targets o.object.target)) (next + 1))) (fenced s x o.object)

-- ---- reset: the object is emptied; where that fails, its destination is left; where it is too old, nothing will be cleared

abbrev pub emptied : Servers → CopyingView → ObjectId → Servers
emptied s x o = with_target s o.target (after_reset (target_of s o) o.number x.side.layout.generation)

-- the copy with the component with this id left
abbrev pub leaves_with : CopyingView → ℕ → FailedCall → CopyingView
leaves_with x id call = with_destinations x (left_with id call x.destinations)

abbrev pub resets_object : CopyView → Servers → CopyingView → ℕ → CopyObject → CallAnswer → Outcome CopyView
resets_object c s x next o answer.Ok = Going (copy_on c (resets_from x (next + 1))) (emptied s x o.object)
resets_object c s x next o (answer.Old kept) = Going (copy_on c (clears_none x)) (emptied s x o.object)
resets_object c s x next o answer.Failed = Going (copy_on c (resets_from (leaves_with x o.component (next_call_on s.targets o.object.target)) (next + 1))) (emptied s x o.object)

-- ---- settle: nobody else writes to an object of a source; the size is what the file has here; a file that is gone leads to done with nothing to clear

-- the fenced objects of components that overlap a destination that isn't left
abbrev pub settled_objects : CopyingView → List CopyObject
settled_objects x = filter (λ (o : CopyObject). overlaps_kept x.destinations o.extent) (fences_of x)

-- of another client's PW on these objects the first, by object
abbrev pub first_writer : List Lock → ℕ → List CopyObject → Option (ℕ × Range)
first_writer held client [] = None
first_writer held client (o ∷ os) = option_or (writer_but held client o.object) (first_writer held client os)

-- what comes next by the size: the first chunk; where the file is gone, done with nothing to clear
abbrev pub settled_from : CopyingView → Option ℕ → CopyStage
settled_from x (Some size) = copies_from size 0 x
settled_from x None = clears_none x

abbrev pub settles : CopyView → Servers → CopyingView → Option (ℕ × Range) → Option ℕ → Outcome CopyView
settles c s x (Some told) size = Blocked told.0
settles c s x None size = Going (copy_on c (settled_from x size)) s

-- ---- take: the chunk's bytes from its source, by the layout of begin and without those that failed; where that fails, another source is taken

-- the destination of a chunk
abbrev pub destination_of : Chunk → Destination
destination_of h = destination_at h.copying.destinations h.place

-- the bytes of the file that a chunk has
abbrev pub bytes_of : Chunk → Range
bytes_of h = chunk_range h.number (end_of h.size (destination_of h))

-- who answers the chunk's first byte
abbrev pub source_of : Chunk → Option Component
source_of h = chosen h.copying.side.layout.components h.failed (chunk_start h.number)

-- where the chunk is taken from
abbrev pub piece_from : Chunk → Piece
piece_from h = piece_in (source_of h) (bytes_of h)

-- the servers once the piece is read
abbrev pub piece_read : Servers → Piece → Servers
piece_read s p = with_target s (object_of p).target (after_read (target_of s (object_of p)) (object_of p).number p.offset (length_of p))

-- the bytes of the piece
abbrev pub bytes_in : Servers → Piece → List ℕ
bytes_in s p = piece (bytes_at (target_of s (object_of p)) (object_of p).number) p.offset (length_of p)

-- the chunk once more, without this source
abbrev pub again : Chunk → ℕ → FailedCall → CopyStage
again h source call = chunks_from h.size h.place (h.failed ++ source ∷ []) (Some call) h.number h.copying

abbrev pub takes_chunk : CopyView → Servers → Chunk → Piece → CallAnswer → Outcome CopyView
takes_chunk c s h p answer.Ok = Going (copy_on c (stage.Put h (bytes_in s p))) (piece_read s p)
takes_chunk c s h p other = Going (copy_on c (again h p.component (next_call_on s.targets (object_of p).target))) (piece_read s p)

-- ---- put: these bytes to the destination; where that fails, it is left; where it is too old, nothing will be cleared

-- where the chunk is put
abbrev pub piece_to : Chunk → Piece
piece_to h = piece_in (with_id h.copying.side.layout.components (slice_index h.copying.ids h.place)) (bytes_of h)

-- the servers once the bytes are written
abbrev pub piece_put : Servers → Chunk → Piece → List ℕ → Servers
piece_put s h p bytes = with_target s (object_of p).target (after_write (target_of s (object_of p)) (object_of p).number p.offset bytes h.copying.side.layout.generation)

abbrev pub puts_chunk : CopyView → Servers → Chunk → List ℕ → Piece → CallAnswer → Outcome CopyView
puts_chunk c s h bytes p answer.Ok = Going (copy_on c (chunks_from h.size h.place h.failed h.last (h.number + 1) h.copying)) (piece_put s h p bytes)
puts_chunk c s h bytes p (answer.Old kept) = Going (copy_on c (clears_none h.copying)) (piece_put s h p bytes)
puts_chunk c s h bytes p answer.Failed =
    Going (copy_on c (copies_from h.size (h.place + 1) (leaves_at h.copying h.place (next_call_on s.targets (object_of p).target)))) (piece_put s h p bytes)

-- ---- done, the point: the lease is broken, or it ends and the named components lose stale

abbrev pub ends_copy : CopyView → Servers → List ℕ → List Left → Ending (Unit {0}) → Outcome CopyView
ends_copy c s cleared left (Ends done after) = Answered (reply.Copied cleared left) [] (record s { meta = after })
ends_copy c s cleared left (Breaks step after) = Answered (reply.Broken step) [] (record s { meta = after })
ends_copy c s cleared left (Holds holder) = Blocked holder

-- ---- each step

abbrev pub stage_at : CopyStage → CopyView → Servers → Outcome CopyView
stage_at (stage.Fence x next) c s = fences_object c s x next (object_at (fences_of x) next) (fence_answer (target_of s (object_at (fences_of x) next).object))
stage_at (stage.Reset x next) c s =
    resets_object c s x next (object_at (resets_of x) next) (reset_answer (target_of s (object_at (resets_of x) next).object) (object_at (resets_of x) next).object.number x.side.layout.generation)
stage_at (stage.Settle x) c s = settles c s x (first_writer s.locks c.client (settled_objects x)) (size_of x.side.file s.meta)
stage_at (stage.Take h) c s = takes_chunk c s h (piece_from h) (read_answer (target_of s (object_of (piece_from h))))
stage_at (stage.Put h bytes) c s =
    puts_chunk c s h bytes (piece_to h) (write_answer (target_of s (object_of (piece_to h))) (object_of (piece_to h)).number h.copying.side.layout.generation)
stage_at (stage.Done key cleared left) c s = ends_copy c s cleared left (copy_ends key cleared s.meta)
