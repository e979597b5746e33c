-- How many steps a resync or an extend by copy has left where nothing fails and nothing is too old.
use Rattle.std.specs.Prelude.{◌≡◌, ℕ, ◌+◌, ◌-◌, ◌*◌, ◌<◌, List, [], ◌∷◌, length, drop, Option, None, Some, if◌then◌else◌}
use Rattle.flr_base.specs.declared.reply.Left.{Left}
use Rattle.flr_base.specs.declared.reply.Reply.{Reply}
use Rattle.composite_layout.specs.declared.component.Component.{Component}
use Rattle.layout_lease.specs.Leases.{KeyView}
use Rattle.mirror_select.specs.Candidates.{chosen}
use Rattle.object_target.specs.declared.call.CallAnswer.TheVariants as answer
use Rattle.object_target.specs.Calls.{fence_answer, read_answer, reset_answer, write_answer}
use Rattle.meta_server.specs.declared.answers.Side.{Side}
use Rattle.meta_server.specs.Closing.{size_of}
use Rattle.call_steps.specs.Pieces.{object_of}
use Rattle.call_steps.specs.Servers.{Servers}
use Rattle.call_steps.specs.Steps.{Outcome, Going, Fixed, Ended, Answered, Blocked, Lowers}
use Rattle.resync_copy.specs.declared.merge_phase.MergeStage.TheVariants as merge
use Rattle.resync_copy.specs.declared.parts.CopyObject.{CopyObject}
use Rattle.resync_copy.specs.declared.parts.Destination.{Destination}
use Rattle.resync_copy.specs.declared.phase.Chunk.{Chunk}
use Rattle.resync_copy.specs.declared.phase.CopyAt.{CopyAt}
use Rattle.resync_copy.specs.declared.phase.CopyAt.TheVariants as at
use Rattle.resync_copy.specs.declared.phase.CopyStage.{CopyStage}
use Rattle.resync_copy.specs.declared.phase.CopyStage.TheVariants as stage
use Rattle.resync_copy.specs.Calls.{CopyView}
use Rattle.resync_copy.specs.Chunks.{chunk_of, chunk_start, chunks_between}
use Rattle.resync_copy.specs.Comparing.{comparing_of, merge_fences}
use Rattle.resync_copy.specs.Copies.{copy_on, destination_of, end_of, fences_from, object_at, piece_from, piece_to, target_of}
use Rattle.resync_copy.specs.Fitting.{IsSoundCopy}
use Rattle.resync_copy.specs.Merges.{merge_fences_from, merge_on}
use Rattle.resync_copy.specs.Parts.{all_left, is_kept, is_open}
use Rattle.resync_copy.specs.Steps.{copy_at}
use Rattle.resync_copy.specs.Views.{CopyingView, begun_copy, fences_of, resets_of}
use Rattle.copy_left.specs.MergeLeft.{MergeGoesWell, merge_left, merge_takes}

-- ---- what there is to do

-- how many of these objects are of destinations that aren't left
abbrev pub resets_in : List Destination → List CopyObject → ℕ
resets_in ds [] = 0
resets_in ds (o ∷ os) = if is_open ds o.component then resets_in ds os + 1 else resets_in ds os

-- the take of a chunk from its source, and those behind it: a hole has none, and where nobody can answer it is the end
abbrev pub with_take : Option Component → ℕ → ℕ
with_take None behind = 0
with_take (Some source) behind = if source.flags.init then behind + 1 else behind

-- the takes of these chunks
abbrev pub takes_in : List Component → List ℕ → List ℕ → ℕ
takes_in cs failed [] = 0
takes_in cs failed (chunk ∷ chunks) = with_take (chosen cs failed (chunk_start chunk)) (takes_in cs failed chunks)

-- the takes for these destinations, but those that are left, in a file of this size
abbrev pub takes_for : List Component → ℕ → List Destination → ℕ
takes_for cs size [] = 0
takes_for cs size (d ∷ ds) = if is_kept d then takes_in cs [] (chunks_between (chunk_of d.extent.start) (end_of size d)) + takes_for cs size ds else takes_for cs size ds

-- the takes of a copy once it is settled
abbrev pub takes_of : ℕ → CopyingView → ℕ
takes_of size x = takes_for x.side.layout.components size x.destinations

-- the takes behind the chunk in hand: those for its destination, then those for the destinations behind it
abbrev pub takes_behind : Chunk → ℕ
takes_behind h =
    takes_in h.copying.side.layout.components h.failed (chunks_between (h.number + 1) (end_of h.size (destination_of h)))
    + takes_for h.copying.side.layout.components h.size (drop (h.place + 1) h.copying.destinations)

-- ---- how many steps that is

-- behind the resets: settle, a take and a put for each chunk that has a take, done; or done alone, where every destination is left
abbrev pub settle_left : ℕ → CopyingView → ℕ
settle_left size x = if all_left x.destinations then 1 else 2 * takes_of size x + 2

-- a fence for each object, a reset for each object of a destination that isn't left, and what is behind the resets
abbrev pub stage_left : ℕ → CopyStage → ℕ
stage_left size (stage.Fence x next) = (length (fences_of x) - next) + (resets_in x.destinations (resets_of x) + settle_left size x)
stage_left size (stage.Reset x next) = (resets_in x.destinations (drop (next + 1) (resets_of x)) + 1) + settle_left size x
stage_left size (stage.Settle x) = 2 * takes_of size x + 2
stage_left size (stage.Take h) = 2 * takes_behind h + 3
stage_left size (stage.Put h bytes) = 2 * takes_behind h + 2
stage_left size (stage.Done key cleared left) = 1

-- where the file has this size when the copy is settled; a copy that is to begin doesn't know what its begin brings
abbrev pub left_at : ℕ → CopyAt → ℕ
left_at size at.Begin = 0
left_at size (at.Copy next) = stage_left size next
left_at size (at.Merge next) = merge_left size next

abbrev pub copy_left : ℕ → CopyView → ℕ
copy_left size c = left_at size c.at

-- ---- what lowers it

-- the step is between begin and done, its call doesn't fail and isn't too old, and the file is there, of this size
abbrev pub StageGoesWell : ℕ → CopyStage → Servers → Type 0
StageGoesWell size (stage.Fence x next) s = fence_answer (target_of s (object_at (fences_of x) next).object) ≡ answer.Ok
StageGoesWell size (stage.Reset x next) s = reset_answer (target_of s (object_at (resets_of x) next).object) (object_at (resets_of x) next).object.number x.side.layout.generation ≡ answer.Ok
StageGoesWell size (stage.Settle x) s = size_of x.side.file s.meta ≡ Some size
StageGoesWell size (stage.Take h) s = read_answer (target_of s (object_of (piece_from h))) ≡ answer.Ok
StageGoesWell size (stage.Put h bytes) s = write_answer (target_of s (object_of (piece_to h))) (object_of (piece_to h)).number h.copying.side.layout.generation ≡ answer.Ok
StageGoesWell size (stage.Done key cleared left) s = ⊥

abbrev pub GoesWell : ℕ → CopyAt → Servers → Type 0
GoesWell size at.Begin s = ⊥
GoesWell size (at.Copy next) s = StageGoesWell size next s
GoesWell size (at.Merge next) s = MergeGoesWell size next s

-- such a step lowers the number by one
abbrev pub StepLowers : Type 0
StepLowers = (size : ℕ) (c : CopyView) (s : Servers) → IsSoundCopy c → GoesWell size c.at s → Lowers (copy_left size) (copy_left size c) (copy_at c.at c s)

-- the call ends with its answer, or a holder is in its way
abbrev pub IsLast : Outcome CopyView → Type 0
IsLast (Going next after) = ⊥
IsLast (Fixed next reply takes after) = ⊥
IsLast (Ended after) = ⊥
IsLast (Answered reply takes after) = Unit {0}
IsLast (Blocked holder) = Unit {0}

-- at a done one step is left, and done is the last step
abbrev pub DoneIsLast : Type 0
DoneIsLast =
    (size : ℕ) (c : CopyView) (s : Servers) (key : KeyView) (cleared : List ℕ) (left : List Left) → c.at ≡ at.Copy (stage.Done key cleared left) →
    (copy_left size c ≡ 1) × IsLast (copy_at c.at c s)

-- after the begin of a copy to these components it is one for each object to fence, one for each object to reset, two for each chunk that has a take, and two
abbrev pub BeginLeaves : Type 0
BeginLeaves =
    (size : ℕ) (c : CopyView) (side : Side) (ids : List ℕ) → 0 < length ids →
    copy_left size (copy_on c (fences_from (begun_copy side ids) 0)) ≡ ((length (fences_of (begun_copy side ids)) + length (resets_of (begun_copy side ids))) + 2 * takes_of size (begun_copy side ids)) + 2

-- at a merge's done one step is left, and done is the last step
abbrev pub MergeDoneIsLast : Type 0
MergeDoneIsLast =
    (size : ℕ) (c : CopyView) (s : Servers) (ours theirs : KeyView) (refusal : Option Reply) → c.at ≡ at.Merge (merge.Done ours theirs refusal) →
    (copy_left size c ≡ 1) × IsLast (copy_at c.at c s)

-- after the begin of a merge it is one for each object to fence, one for each take, and two
abbrev pub MergeBeginLeaves : Type 0
MergeBeginLeaves =
    (size : ℕ) (c : CopyView) (ours theirs : Side) →
    copy_left size (merge_on c (merge_fences_from (comparing_of ours theirs) 0)) ≡ (length (merge_fences (comparing_of ours theirs)) + merge_takes size (comparing_of ours theirs)) + 2
