-- Which call of a target each step of a call makes, by its phase: one at most.
use Rattle.std.specs.Prelude.{ℕ, List, [], ◌∷◌, length}
use Rattle.flr_base.specs.declared.reply.ObjectId.{ObjectId}
use Rattle.mirror_select.specs.declared.types.Piece.{Piece}
use Rattle.object_target.specs.declared.call.CallEntry.{CallEntry}
use Rattle.object_target.specs.declared.call.CallKind.TheVariants as kind
use Rattle.object_target.specs.Calls.{fence_answer, punch_answer, read_answer, reset_answer, write_answer}
use Rattle.object_target.specs.TargetState.{TargetState, bytes_at, next_call, version_at}
use Rattle.call_steps.specs.Pieces.{length_of, object_of, piece_at}
use Rattle.call_steps.specs.Servers.{Servers, target_at}
use Rattle.client_read.specs.declared.phase.ReadAt.{ReadAt}
use Rattle.client_read.specs.declared.phase.ReadAt.TheVariants as read
use Rattle.client_write.specs.declared.phase.CutAt.{CutAt}
use Rattle.client_write.specs.declared.phase.CutAt.TheVariants as cut
use Rattle.client_write.specs.declared.phase.WriteAt.{WriteAt}
use Rattle.client_write.specs.declared.phase.WriteAt.TheVariants as write
use Rattle.client_write.specs.Calls.{WriteView}
use Rattle.client_write.specs.Truncates.{tail_at}
use Rattle.client_write.specs.Writes as writes
use Rattle.mirror_verify.specs.declared.phase.VerifyAt.{VerifyAt}
use Rattle.mirror_verify.specs.declared.phase.VerifyAt.TheVariants as verify
use Rattle.mirror_verify.specs.Blocks.{copy_at}
use Rattle.resync_copy.specs.declared.merge_phase.MergeStage.{MergeStage}
use Rattle.resync_copy.specs.declared.merge_phase.MergeStage.TheVariants as merge
use Rattle.resync_copy.specs.declared.phase.CopyAt.{CopyAt}
use Rattle.resync_copy.specs.declared.phase.CopyAt.TheVariants as at
use Rattle.resync_copy.specs.declared.phase.CopyStage.{CopyStage}
use Rattle.resync_copy.specs.declared.phase.CopyStage.TheVariants as stage
use Rattle.resync_copy.specs.Comparing.{merge_fences, version_at as merge_version}
use Rattle.resync_copy.specs.Copies.{object_at, piece_from, piece_to}
use Rattle.resync_copy.specs.Merges.{our_piece, their_piece}
use Rattle.resync_copy.specs.Views.{fences_of, resets_of}
use Rattle.flr_steps.specs.declared.client.Running.{Running}
use Rattle.flr_steps.specs.declared.client.Running.TheVariants as running
use Rattle.flr_steps.specs.Traces.{Made}

-- ---- entries of the log

-- a read
abbrev pub read_entry : TargetState → ℕ → ℕ → ℕ → CallEntry
read_entry t object offset len = record { kind = kind.Read; object = object; offset = offset; length = len; version = 0; answer = read_answer t }

-- a write
abbrev pub write_entry : TargetState → ℕ → ℕ → List ℕ → ℕ → CallEntry
write_entry t object offset bytes version = record { kind = kind.Write; object = object; offset = offset; length = length bytes; version = version; answer = write_answer t object version }

-- a fence
abbrev pub fence_entry : TargetState → ℕ → ℕ → CallEntry
fence_entry t object version = record { kind = kind.Fence; object = object; offset = 0; length = 0; version = version; answer = fence_answer t }

-- a reset
abbrev pub reset_entry : TargetState → ℕ → ℕ → CallEntry
reset_entry t object version = record { kind = kind.Reset; object = object; offset = 0; length = 0; version = version; answer = reset_answer t object version }

-- a punch
abbrev pub punch_entry : TargetState → ℕ → ℕ → ℕ → CallEntry
punch_entry t object offset version = record { kind = kind.Punch; object = object; offset = offset; length = 0; version = version; answer = punch_answer t object version }

-- ---- calls of targets

-- the next call of this target, made at this place, with this entry
abbrev pub call_made : ℕ → Servers → ℕ → CallEntry → Made
call_made place s id entry = record {
  place = place;
  target = id;
  call = next_call (target_at s.targets id);
  entry = entry;
  kept = version_at (target_at s.targets id) entry.object;
  bytes = bytes_at (target_at s.targets id) entry.object;
}

-- the piece is read
abbrev pub take_made : ℕ → Servers → Piece → Made
take_made place s p = call_made place s (object_of p).target (read_entry (target_at s.targets (object_of p).target) (object_of p).number p.offset (length_of p))

-- these bytes are written where the piece lies
abbrev pub put_made : ℕ → Servers → Piece → List ℕ → ℕ → Made
put_made place s p bytes version = call_made place s (object_of p).target (write_entry (target_at s.targets (object_of p).target) (object_of p).number p.offset bytes version)

-- the object is fenced, reset, or cut at this offset
abbrev pub fence_made : ℕ → Servers → ObjectId → ℕ → Made
fence_made place s o version = call_made place s o.target (fence_entry (target_at s.targets o.target) o.number version)

abbrev pub reset_made : ℕ → Servers → ObjectId → ℕ → Made
reset_made place s o version = call_made place s o.target (reset_entry (target_at s.targets o.target) o.number version)

abbrev pub punch_made : ℕ → Servers → ObjectId → ℕ → ℕ → Made
punch_made place s o offset version = call_made place s o.target (punch_entry (target_at s.targets o.target) o.number offset version)

-- ---- by phases

-- a read takes a piece
abbrev pub read_makes : ℕ → ReadAt → Servers → List Made
read_makes place (read.Take x next) s = take_made place s (piece_at x.pieces next) ∷ []
read_makes place other s = []

-- a write sends a piece
abbrev pub write_makes : ℕ → WriteView → WriteAt → Servers → List Made
write_makes place w (write.Send x next) s = put_made place s (piece_at x.pieces next) (writes.bytes_of w (piece_at x.pieces next)) x.opened.layout.generation ∷ []
write_makes place w other s = []

-- a truncate punches a tail
abbrev pub cut_makes : ℕ → CutAt → Servers → List Made
cut_makes place (cut.Punch x next) s = punch_made place s (tail_at x.tails next).object (tail_at x.tails next).offset x.opened.layout.generation ∷ []
cut_makes place other s = []

-- a verify takes a copy
abbrev pub verify_makes : ℕ → VerifyAt → Servers → List Made
verify_makes place (verify.Take x next) s = take_made place s (copy_at x.copies next).piece ∷ []
verify_makes place other s = []

-- a copy fences or resets an object, takes a chunk, or puts it
abbrev pub stage_makes : ℕ → CopyStage → Servers → List Made
stage_makes place (stage.Fence x next) s = fence_made place s (object_at (fences_of x) next).object x.side.layout.generation ∷ []
stage_makes place (stage.Reset x next) s = reset_made place s (object_at (resets_of x) next).object x.side.layout.generation ∷ []
stage_makes place (stage.Take h) s = take_made place s (piece_from h) ∷ []
stage_makes place (stage.Put h bytes) s = put_made place s (piece_to h) bytes h.copying.side.layout.generation ∷ []
stage_makes place (stage.Settle x) s = []
stage_makes place (stage.Done key cleared left) s = []

-- a merge fences an object, or takes a chunk of one of both files
abbrev pub merge_makes : ℕ → MergeStage → Servers → List Made
merge_makes place (merge.Fence x next) s = fence_made place s (object_at (merge_fences x) next).object (merge_version x next) ∷ []
merge_makes place (merge.TakeOurs p) s = take_made place s (our_piece p) ∷ []
merge_makes place (merge.TakeTheirs p ours) s = take_made place s (their_piece p) ∷ []
merge_makes place (merge.Settle x) s = []
merge_makes place (merge.Done ours theirs refusal) s = []

abbrev pub copy_makes : ℕ → CopyAt → Servers → List Made
copy_makes place at.Begin s = []
copy_makes place (at.Copy next) s = stage_makes place next s
copy_makes place (at.Merge next) s = merge_makes place next s

-- what the next step of a call makes; a command of one step makes nothing
abbrev pub makes : ℕ → Running → Servers → List Made
makes place running.Idle s = []
makes place (running.Read call) s = read_makes place call.at s
makes place (running.Write call) s = write_makes place call call.at s
makes place (running.Truncate call) s = cut_makes place call.at s
makes place (running.Verify call) s = verify_makes place call.at s
makes place (running.Copy call) s = copy_makes place call.at s
