-- What a merge says of itself, and what it wants of the servers.
use Rattle.std.specs.Prelude.{◌≡◌, ◌<◌, ◌≤◌, length, Option, None, Some, true}
use Rattle.flr_base.specs.declared.reply.Reply.{Reply}
use Rattle.composite_layout.specs.declared.component.Component.{Component}
use Rattle.composite_layout.specs.Layouts.{IsValid}
use Rattle.layout_lease.specs.Leases.{KeyView}
use Rattle.meta_server.specs.Conditions.{HasGenerationRoom, MayMerge}
use Rattle.meta_server.specs.Ending.{merge_ends}
use Rattle.meta_server.specs.Files.{MetaView}
use Rattle.flr_base.specs.Limits.{most_bytes}
use Rattle.meta_server.specs.Outcomes.{IsTakenIn}
use Rattle.call_steps.specs.Servers.{Servers, AreThere, HoldsNone}
use Rattle.resync_copy.specs.declared.merge_phase.MergeStage.{MergeStage}
use Rattle.resync_copy.specs.declared.merge_phase.MergeStage.TheVariants as merge
use Rattle.resync_copy.specs.declared.merge_phase.Pair.{Pair}
use Rattle.resync_copy.specs.Calls.{CopyView}
use Rattle.resync_copy.specs.Chunks.{chunk_start}
use Rattle.resync_copy.specs.Comparing.{ComparingView, merge_fences}
use Rattle.resync_copy.specs.Merges.{our_source, their_source}
use Rattle.resync_copy.specs.Sizes.{IsSmall}

-- both layouts are valid
pub record IsComparing (x : ComparingView) : Type 0 where
  pub ours : IsValid x.ours.layout
  pub theirs : IsValid x.theirs.layout

-- the chunk has a byte of the files
pub record IsPair (p : Pair) : Type 0 where
  pub comparing : IsComparing p.comparing
  pub size : p.size ≤ most_bytes
  pub some : chunk_start p.number < p.size

-- who answers is there, and has objects
abbrev pub HasObjects : Option Component → Type 0
HasObjects source = (c : Component) × (source ≡ Some c) × (c.flags.init ≡ true)

-- what a stage says of itself
abbrev pub IsSoundMerge : MergeStage → Type 0
IsSoundMerge (merge.Fence x next) = IsComparing x × (next < length (merge_fences x))
IsSoundMerge (merge.Settle x) = IsComparing x
IsSoundMerge (merge.TakeOurs p) = IsPair p × HasObjects (our_source p)
IsSoundMerge (merge.TakeTheirs p ours) = IsPair p × HasObjects (their_source p)
IsSoundMerge (merge.Done ours theirs refusal) = Unit {0}

-- a merge with nothing that refuses wants that its keys are of one client and two files, and that their mirrors fit into ours
abbrev pub MayEnd : KeyView → KeyView → Option Reply → Servers → Type 0
MayEnd ours theirs None s = MayMerge ours theirs s.meta × HasGenerationRoom s.meta
MayEnd ours theirs (Some kept) s = Unit {0}

-- each object of both files is on a target that is there
abbrev pub AreBothThere : ComparingView → Servers → Type 0
AreBothThere x s = AreThere s.targets x.ours.layout.components × AreThere s.targets x.theirs.layout.components

-- what a stage wants of the servers: each object that is called is on a target that is there; who settles holds no extent lock, and our file isn't too big
abbrev pub MergeFits : MergeStage → CopyView → Servers → Type 0
MergeFits (merge.Fence x next) c s = AreBothThere x s
MergeFits (merge.Settle x) c s = HoldsNone c.client s.locks × IsSmall x.ours.file s.meta
MergeFits (merge.TakeOurs p) c s = AreThere s.targets p.comparing.ours.layout.components
MergeFits (merge.TakeTheirs p ours) c s = AreThere s.targets p.comparing.theirs.layout.components
MergeFits (merge.Done ours theirs refusal) c s = MayEnd ours theirs refusal s

-- a done takes no memory that refuses, finds a lease broken or is blocked
abbrev pub DoneTakesNoMemory : KeyView → KeyView → Option Reply → MetaView → Type 0
DoneTakesNoMemory ours theirs (Some refusal) m = Unit {0}
DoneTakesNoMemory ours theirs None m = ¬ IsTakenIn (merge_ends ours theirs m)

-- the stages that take no memory: settle, and a done that doesn't take the victim in
abbrev pub MergeTakesNoMemory : MergeStage → MetaView → Type 0
MergeTakesNoMemory (merge.Fence x next) m = ⊥
MergeTakesNoMemory (merge.Settle x) m = Unit {0}
MergeTakesNoMemory (merge.TakeOurs p) m = ⊥
MergeTakesNoMemory (merge.TakeTheirs p ours) m = ⊥
MergeTakesNoMemory (merge.Done ours theirs refusal) m = DoneTakesNoMemory ours theirs refusal m
