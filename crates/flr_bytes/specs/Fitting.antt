-- What the parts of a copy are to one another, whatever bytes there are.
use Rattle.std.specs.Prelude.{◌≡◌, ℕ, ◌<◌, ◌≤◌, true, length, get_or, Some}
use Rattle.std.specs.List.{AllByRecursion}
use Rattle.flr_base.specs.Limits.{most_bytes}
use Rattle.resync_copy.specs.declared.merge_phase.MergeStage.{MergeStage}
use Rattle.resync_copy.specs.declared.merge_phase.MergeStage.TheVariants as merge
use Rattle.resync_copy.specs.declared.phase.Chunk.{Chunk}
use Rattle.resync_copy.specs.declared.phase.CopyAt.{CopyAt}
use Rattle.resync_copy.specs.declared.phase.CopyAt.TheVariants as at
use Rattle.resync_copy.specs.declared.phase.CopyStage.{CopyStage}
use Rattle.resync_copy.specs.declared.phase.CopyStage.TheVariants as stage
use Rattle.resync_copy.specs.Chunks.{chunk_of}
use Rattle.resync_copy.specs.Copies.{destination_of}
use Rattle.resync_copy.specs.Fitting.{HasSource, HasItsObjects}
use Rattle.resync_copy.specs.MergeFitting.{HasObjects}
use Rattle.resync_copy.specs.Merges.{our_source, their_source}
use Rattle.resync_copy.specs.Parts.{is_kept}
use Rattle.resync_copy.specs.Views.{CopyingView}
use Rattle.flr_steps.specs.declared.client.Client.{Client}
use Rattle.flr_steps.specs.declared.client.Running.{Running}
use Rattle.flr_steps.specs.declared.client.Running.TheVariants as running
use Rattle.flr_steps.specs.States.{State, client_at}

-- each id is that of a component of the layout that has its objects, and none is there twice
pub record AreFit (x : CopyingView) : Type 0 where
  pub made : AllByRecursion (HasItsObjects x.side.layout.components) x.ids
  pub once : (i j : ℕ) → i < length x.ids → j < length x.ids → get_or x.ids i 0 ≡ get_or x.ids j 0 → i ≡ j

-- the settled size isn't too big, and the chunk is one of a destination that isn't left, from its first chunk on
pub record IsChunkFit (h : Chunk) : Type 0 where
  pub copying : AreFit h.copying
  pub size : h.size ≤ most_bytes
  pub within : h.place < length h.copying.destinations
  pub kept : is_kept (destination_of h) ≡ true
  pub from : chunk_of (destination_of h).extent.start ≤ h.number

-- who is asked for a chunk has objects, and no more than a chunk is in hand
abbrev pub IsFitStage : CopyStage → Type 0
IsFitStage (stage.Fence x next) = AreFit x
IsFitStage (stage.Reset x next) = AreFit x
IsFitStage (stage.Settle x) = AreFit x
IsFitStage (stage.Take h) = IsChunkFit h × HasSource h
IsFitStage (stage.Put h bytes) = IsChunkFit h × (length bytes ≤ 65536)
IsFitStage (stage.Done key cleared left) = Unit {0}

-- so it is with a merge
abbrev pub IsFitMerge : MergeStage → Type 0
IsFitMerge (merge.Fence x next) = Unit {0}
IsFitMerge (merge.Settle x) = Unit {0}
IsFitMerge (merge.TakeOurs p) = (p.size ≤ most_bytes) × HasObjects (our_source p)
IsFitMerge (merge.TakeTheirs p ours) = (p.size ≤ most_bytes) × HasObjects (their_source p)
IsFitMerge (merge.Done ours theirs refusal) = Unit {0}

abbrev pub IsFitAt : CopyAt → Type 0
IsFitAt at.Begin = Unit {0}
IsFitAt (at.Copy next) = IsFitStage next
IsFitAt (at.Merge next) = IsFitMerge next

abbrev pub IsFit : Running → Type 0
IsFit (running.Copy call) = IsFitAt call.at
IsFit other = Unit {0}

-- the copy of each client
abbrev pub CopiesFit : State → Type 0
CopiesFit s = (c : ℕ) (client : Client) → client_at s.clients c ≡ Some client → IsFit client.call
