-- What fences, resets and the settle of a copy are in force for, in every state of a run.
use Rattle.std.specs.Prelude.{◌≡◌, ℕ, ◌<◌, ◌≤◌, Bool, true, List, [], length, map, Option, Some, None, ◌⊎◌}
use Rattle.flr_base.specs.declared.reply.Range.{Range}
use Rattle.composite_layout.specs.Layouts.{IsValid}
use Rattle.layout_lease.specs.declared.lease.KeyState.TheVariants.{Held}
use Rattle.layout_lease.specs.Leases.{KeyView, state_of}
use Rattle.object_target.specs.TargetState.{TargetState}
use Rattle.meta_server.specs.declared.answers.Side.{Side}
use Rattle.meta_server.specs.Files.{MetaView}
use Rattle.resync_copy.specs.declared.merge_phase.MergeStage.{MergeStage}
use Rattle.resync_copy.specs.declared.merge_phase.MergeStage.TheVariants as merge
use Rattle.resync_copy.specs.declared.parts.Destination.{Destination}
use Rattle.resync_copy.specs.declared.phase.CopyAt.{CopyAt}
use Rattle.resync_copy.specs.declared.phase.CopyAt.TheVariants as at
use Rattle.resync_copy.specs.declared.phase.CopyStage.{CopyStage}
use Rattle.resync_copy.specs.declared.phase.CopyStage.TheVariants as stage
use Rattle.resync_copy.specs.Comparing.{ComparingView, merge_fences}
use Rattle.resync_copy.specs.Comparing as comparing
use Rattle.resync_copy.specs.Copies.{object_at}
use Rattle.resync_copy.specs.Parts.{cleared_of, destinations_in, is_open, overlaps_kept}
use Rattle.resync_copy.specs.Views.{CopyingView, fences_of, resets_of}
use Rattle.flr_numbers.specs.Frames.{Leases}
use Rattle.flr_numbers.specs.Hands.{version_on}
use Rattle.flr_steps.specs.declared.client.Running.{Running}
use Rattle.flr_steps.specs.declared.client.Running.TheVariants as running
use Rattle.flr_steps.specs.States.{State}
use Rattle.flr_steps.specs.Traces.{Trace, doing_of}
use Rattle.flr_claims.specs.Honesty.{IsAttempting}
use Rattle.flr_claims.specs.Sending.{Attempt, HasLanded, Part, reach_of}

-- the part has landed for a writing call on the file with this number, before that call's point
pub record HasLandedOn (s : State) (t : Trace) (file : ℕ) (p : Part) : Type 0 where
  pub client : ℕ
  pub attempt : Attempt
  pub attempting : IsAttempting s client attempt
  pub same : attempt.opened.file ≡ file
  pub place : ℕ
  pub landed : HasLanded s.script.fails attempt (doing_of t client) place p

-- ---- what a copy has of a file

-- the key is of the file; while its lease stands the file has the layout that was got at begin, which is valid
abbrev pub IsSideOf : MetaView → Side → Type 0
IsSideOf m side = (side.file ≡ side.key.file) × Leases m side.key side.layout × IsValid side.layout

-- while the lease stands no part that has landed on the file reaches what is meant
abbrev pub NoneLands : MetaView → (ℕ → Part → Type 0) → KeyView → (Range → Bool) → Type 0
NoneLands m lands key meant = state_of m.leases key ≡ Held → (p : Part) → lands key.file p → meant (reach_of p) ≡ true → ⊥

-- ---- a copy of one file

-- a destination as it was at begin
abbrev pub unleft : Destination → Destination
unleft d = record d { left = None }

-- the destinations are those of begin, of which some may be left
abbrev pub IsBegun : MetaView → CopyingView → Type 0
IsBegun m x = IsSideOf m x.side × (map unleft x.destinations ≡ destinations_in x.side.layout.components x.ids)

-- of the first so many objects to fence each that overlaps a destination that isn't left keeps at least the generation of begin
abbrev pub AreFenced : List TargetState → CopyingView → ℕ → Type 0
AreFenced targets x count = (i : ℕ) → i < count → overlaps_kept x.destinations (object_at (fences_of x) i).extent ≡ true → x.side.layout.generation ≤ version_on targets (object_at (fences_of x) i).object

-- of the first so many objects to reset each of a destination that isn't left does
abbrev pub AreReset : List TargetState → CopyingView → ℕ → Type 0
AreReset targets x count = (i : ℕ) → i < count → is_open x.destinations (object_at (resets_of x) i).component ≡ true → x.side.layout.generation ≤ version_on targets (object_at (resets_of x) i).object

-- all fences and resets are in force, and nothing that landed reaches a destination that isn't left
abbrev pub IsReady : MetaView → List TargetState → (ℕ → Part → Type 0) → CopyingView → Type 0
IsReady m targets lands x = IsBegun m x × AreFenced targets x (length (fences_of x)) × AreReset targets x (length (resets_of x)) × NoneLands m lands x.side.key (overlaps_kept x.destinations)

-- what a copy knows by its stage; at the end it clears nothing, or what it was ready for
abbrev pub StageSays : MetaView → List TargetState → (ℕ → Part → Type 0) → CopyStage → Type 0
StageSays m targets lands (stage.Fence x next) = IsBegun m x × AreFenced targets x next
StageSays m targets lands (stage.Reset x next) = IsBegun m x × AreFenced targets x (length (fences_of x)) × AreReset targets x next
StageSays m targets lands (stage.Settle x) = IsBegun m x × AreFenced targets x (length (fences_of x)) × AreReset targets x (length (resets_of x))
StageSays m targets lands (stage.Take h) = IsReady m targets lands h.copying
StageSays m targets lands (stage.Put h bytes) = IsReady m targets lands h.copying
StageSays m targets lands (stage.Done key cleared left) = (cleared ≡ []) ⊎ ((x : CopyingView) × (x.side.key ≡ key) × (cleared ≡ cleared_of x.destinations) × IsReady m targets lands x)

-- ---- a file that is to be taken in

-- of the first so many objects to fence each keeps at least the generation of its file's begin
abbrev pub AreBothFenced : List TargetState → ComparingView → ℕ → Type 0
AreBothFenced targets x count = (i : ℕ) → i < count → comparing.version_at x i ≤ version_on targets (object_at (merge_fences x) i).object

-- all bytes
abbrev pub anywhere : Range → Bool
anywhere r = true

-- all fences are in force, and nothing has landed on either file while its lease stands
abbrev pub AreStill : MetaView → List TargetState → (ℕ → Part → Type 0) → ComparingView → Type 0
AreStill m targets lands x = IsSideOf m x.ours × IsSideOf m x.theirs × AreBothFenced targets x (length (merge_fences x)) × NoneLands m lands x.ours.key anywhere × NoneLands m lands x.theirs.key anywhere

-- what a merge knows by its stage
abbrev pub MergeSays : MetaView → List TargetState → (ℕ → Part → Type 0) → MergeStage → Type 0
MergeSays m targets lands (merge.Fence x next) = IsSideOf m x.ours × IsSideOf m x.theirs × AreBothFenced targets x next
MergeSays m targets lands (merge.Settle x) = IsSideOf m x.ours × IsSideOf m x.theirs × AreBothFenced targets x (length (merge_fences x))
MergeSays m targets lands (merge.TakeOurs p) = AreStill m targets lands p.comparing
MergeSays m targets lands (merge.TakeTheirs p ours) = AreStill m targets lands p.comparing
MergeSays m targets lands (merge.Done ours theirs (Some refusal)) = Unit {0}
MergeSays m targets lands (merge.Done ours theirs None) = (x : ComparingView) × (x.ours.key ≡ ours) × (x.theirs.key ≡ theirs) × AreStill m targets lands x

-- ---- each call

abbrev pub CopySays : MetaView → List TargetState → (ℕ → Part → Type 0) → CopyAt → Type 0
CopySays m targets lands at.Begin = Unit {0}
CopySays m targets lands (at.Copy next) = StageSays m targets lands next
CopySays m targets lands (at.Merge next) = MergeSays m targets lands next

abbrev pub Says : MetaView → List TargetState → (ℕ → Part → Type 0) → Running → Type 0
Says m targets lands (running.Copy call) = CopySays m targets lands call.at
Says m targets lands other = Unit {0}

-- ---- who is that far

-- the copy whose fences are all made, by its stage
abbrev pub fenced_copy : CopyStage → Option CopyingView
fenced_copy (stage.Reset x next) = Some x
fenced_copy (stage.Settle x) = Some x
fenced_copy (stage.Take h) = Some h.copying
fenced_copy (stage.Put h bytes) = Some h.copying
fenced_copy other = None

-- the one that has settled
abbrev pub settled_copy : CopyStage → Option CopyingView
settled_copy (stage.Take h) = Some h.copying
settled_copy (stage.Put h bytes) = Some h.copying
settled_copy other = None

-- the merge whose fences are all made, and the one that has settled
abbrev pub fenced_merge : MergeStage → Option ComparingView
fenced_merge (merge.Settle x) = Some x
fenced_merge (merge.TakeOurs p) = Some p.comparing
fenced_merge (merge.TakeTheirs p ours) = Some p.comparing
fenced_merge other = None

abbrev pub settled_merge : MergeStage → Option ComparingView
settled_merge (merge.TakeOurs p) = Some p.comparing
settled_merge (merge.TakeTheirs p ours) = Some p.comparing
settled_merge other = None
