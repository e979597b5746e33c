-- What a copy says of itself, and what it wants of the servers.
use Rattle.std.specs.Prelude.{◌≡◌, ℕ, ◌-◌, ◌<◌, ◌≤◌, List, [], length, Some, true}
use Rattle.std.specs.List.{AllByRecursion}
use Rattle.composite_layout.specs.declared.component.Component.{Component}
use Rattle.composite_layout.specs.Layouts.{IsValid}
use Rattle.layout_lease.specs.Clients.{IsClient}
use Rattle.layout_lease.specs.Leases.{keys_of}
use Rattle.meta_server.specs.Beginning.{copy_begins}
use Rattle.meta_server.specs.Conditions.{HasGenerationRoom, HasObjectRoom, IsCopyOf, IsRoom}
use Rattle.flr_base.specs.Limits.{most_bytes}
use Rattle.meta_server.specs.Outcomes.{MayLackMemory}
use Rattle.call_steps.specs.Servers.{Servers, AreThere, CanCall, HoldsNone}
use Rattle.resync_copy.specs.declared.phase.Chunk.{Chunk}
use Rattle.resync_copy.specs.declared.phase.CopyAt.{CopyAt}
use Rattle.resync_copy.specs.declared.phase.CopyAt.TheVariants as at
use Rattle.resync_copy.specs.declared.phase.CopyStage.{CopyStage}
use Rattle.resync_copy.specs.declared.phase.CopyStage.TheVariants as stage
use Rattle.resync_copy.specs.declared.phase.Phase.{Phase}
use Rattle.resync_copy.specs.declared.phase.Phase.TheVariants as phase
use Rattle.resync_copy.specs.Calls.{CopyView}
use Rattle.resync_copy.specs.Chunks.{chunk_start}
use Rattle.resync_copy.specs.Comparing.{comparing_of, merge_fences}
use Rattle.resync_copy.specs.Copies.{bytes_of, destination_of, end_of, source_of}
use Rattle.resync_copy.specs.MergeFitting.{IsSoundMerge, MergeFits, MergeTakesNoMemory}
use Rattle.resync_copy.specs.Parts.{with_id}
use Rattle.resync_copy.specs.Sizes.{IsSmall}
use Rattle.resync_copy.specs.Views.{CopyingView, begun_copy, fences_of, resets_of}

-- the id is that of a component that has its objects
abbrev pub HasItsObjects : List Component → ℕ → Type 0
HasItsObjects cs id = (c : Component) × (with_id cs id ≡ Some c) × (c.flags.init ≡ true)

-- the layout is valid, and each id is that of a destination with its objects
pub record IsCopying (x : CopyingView) : Type 0 where
  pub valid : IsValid x.side.layout
  pub each : AllByRecursion (HasItsObjects x.side.layout.components) x.ids
  pub as_many : length x.destinations ≡ length x.ids

-- the chunk has a byte of its destination and of the file
pub record IsChunk (h : Chunk) : Type 0 where
  pub copying : IsCopying h.copying
  pub place : h.place < length h.copying.destinations
  pub size : h.size ≤ most_bytes
  pub some : chunk_start h.number < end_of h.size (destination_of h)

-- the chunk's source has its objects
abbrev pub HasSource : Chunk → Type 0
HasSource h = (c : Component) × (source_of h ≡ Some c) × (c.flags.init ≡ true)

-- what a stage says of itself
abbrev pub IsSoundStage : CopyStage → Type 0
IsSoundStage (stage.Fence x next) = IsCopying x × (next < length (fences_of x))
IsSoundStage (stage.Reset x next) = IsCopying x × (next < length (resets_of x))
IsSoundStage (stage.Settle x) = IsCopying x
IsSoundStage (stage.Take h) = IsChunk h × HasSource h
IsSoundStage (stage.Put h bytes) = IsChunk h × (length bytes ≡ (bytes_of h).end - (bytes_of h).start)
IsSoundStage (stage.Done key cleared left) = Unit {0}

-- what a copy says of itself that does this next
abbrev pub IsSoundAt : CopyAt → Type 0
IsSoundAt at.Begin = Unit {0}
IsSoundAt (at.Copy next) = IsSoundStage next
IsSoundAt (at.Merge next) = IsSoundMerge next

-- the copy is one of a client, it may be asked for, and its stage is sound
pub record IsSoundCopy (c : CopyView) : Type 0 where
  pub client : IsClient c.client
  pub asked : IsCopyOf c.name c.what
  pub stage : IsSoundAt c.at

-- a copy that has just begun has something to reset, and a merge that lists its fences has some
abbrev pub IsSoundPhase : Phase → Type 0
IsSoundPhase phase.Begin = Unit {0}
IsSoundPhase (phase.Begun side ids) = IsCopying (begun_copy side ids) × (0 < length (resets_of (begun_copy side ids)))
IsSoundPhase (phase.Copy next) = Unit {0}
IsSoundPhase (phase.Compared ours theirs) = 0 < length (merge_fences (comparing_of ours theirs))
IsSoundPhase (phase.Merge next) = Unit {0}

-- who begins holds no extent lock and no key, and keys, generations and object numbers leave room
pub record MayBegin (c : CopyView) (s : Servers) : Type 0 where
  pub none : HoldsNone c.client s.locks
  pub no_key : keys_of c.client s.meta.leases.keys ≡ []
  pub keys : IsRoom s.meta.leases.next
  pub generations : HasGenerationRoom s.meta
  pub objects : HasObjectRoom s.meta

-- what a stage wants of the servers: each object that is called is on a target that is there; who settles holds no extent lock, and the file isn't too big; generations leave room for done
abbrev pub StageFits : CopyStage → CopyView → Servers → Type 0
StageFits (stage.Fence x next) c s = AreThere s.targets x.side.layout.components
StageFits (stage.Reset x next) c s = AreThere s.targets x.side.layout.components
StageFits (stage.Settle x) c s = HoldsNone c.client s.locks × IsSmall x.side.file s.meta
StageFits (stage.Take h) c s = AreThere s.targets h.copying.side.layout.components
StageFits (stage.Put h bytes) c s = AreThere s.targets h.copying.side.layout.components
StageFits (stage.Done key cleared left) c s = HasGenerationRoom s.meta

abbrev pub FitsAt : CopyAt → CopyView → Servers → Type 0
FitsAt at.Begin c s = MayBegin c s
FitsAt (at.Copy next) c s = StageFits next c s
FitsAt (at.Merge next) c s = MergeFits next c s

-- what a step of a copy wants of the servers
pub record CopyFits (c : CopyView) (s : Servers) : Type 0 where
  pub calls : CanCall s.targets
  pub stage : FitsAt c.at c s

-- the stages that take no memory: settle and done
abbrev pub StageTakesNoMemory : CopyStage → Type 0
StageTakesNoMemory (stage.Fence x next) = ⊥
StageTakesNoMemory (stage.Reset x next) = ⊥
StageTakesNoMemory (stage.Settle x) = Unit {0}
StageTakesNoMemory (stage.Take h) = ⊥
StageTakesNoMemory (stage.Put h bytes) = ⊥
StageTakesNoMemory (stage.Done key cleared left) = Unit {0}

-- the steps that take no memory: a begin that is refused with an answer that names no file, and those stages
abbrev pub IsFreeAt : CopyAt → CopyView → Servers → Type 0
IsFreeAt at.Begin c s = ¬ MayLackMemory (copy_begins c.client c.name c.what s.meta)
IsFreeAt (at.Copy next) c s = StageTakesNoMemory next
IsFreeAt (at.Merge next) c s = MergeTakesNoMemory next s.meta

abbrev pub TakesNoMemory : CopyView → Servers → Type 0
TakesNoMemory c s = IsFreeAt c.at c s
