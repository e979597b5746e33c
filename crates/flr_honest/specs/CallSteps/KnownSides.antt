-- Behind its begin each step of a copy knows the files as the begin got them.
use Rattle.std.specs.Prelude.{◌≡◌, ℕ, List}
use Rattle.meta_server.specs.declared.answers.Side.{Side}
use Rattle.resync_copy.specs.declared.merge_phase.MergeStage.{MergeStage}
use Rattle.resync_copy.specs.declared.merge_phase.MergeStage.TheVariants as merge
use Rattle.resync_copy.specs.declared.phase.CopyAt.{CopyAt}
use Rattle.resync_copy.specs.declared.phase.CopyAt.TheVariants as at
use Rattle.resync_copy.specs.declared.phase.CopyStage.{CopyStage}
use Rattle.resync_copy.specs.declared.phase.CopyStage.TheVariants as stage
use Rattle.resync_copy.specs.Comparing.{ComparingView}
use Rattle.resync_copy.specs.Views.{CopyingView}

-- a copy of this side, to these components
abbrev pub IsOfSide : Side → List ℕ → CopyingView → Type 0
IsOfSide side ids x = (x.side ≡ side) × (x.ids ≡ ids)

abbrev pub IsStageOf : Side → List ℕ → CopyStage → Type 0
IsStageOf side ids (stage.Fence x next) = IsOfSide side ids x
IsStageOf side ids (stage.Reset x next) = IsOfSide side ids x
IsStageOf side ids (stage.Settle x) = IsOfSide side ids x
IsStageOf side ids (stage.Take h) = IsOfSide side ids h.copying
IsStageOf side ids (stage.Put h bytes) = IsOfSide side ids h.copying
IsStageOf side ids (stage.Done key cleared left) = key ≡ side.key

-- a merge of these sides
abbrev pub IsOfSides : Side → Side → ComparingView → Type 0
IsOfSides ours theirs x = (x.ours ≡ ours) × (x.theirs ≡ theirs)

abbrev pub IsMergeOf : Side → Side → MergeStage → Type 0
IsMergeOf ours theirs (merge.Fence x next) = IsOfSides ours theirs x
IsMergeOf ours theirs (merge.Settle x) = IsOfSides ours theirs x
IsMergeOf ours theirs (merge.TakeOurs p) = IsOfSides ours theirs p.comparing
IsMergeOf ours theirs (merge.TakeTheirs p bytes) = IsOfSides ours theirs p.comparing
IsMergeOf ours theirs (merge.Done our_key their_key refusal) = (our_key ≡ ours.key) × (their_key ≡ theirs.key)

-- the call is under way with that copy, or with that merge
abbrev pub CopiesSide : Side → List ℕ → CopyAt → Type 0
CopiesSide side ids at.Begin = ⊥
CopiesSide side ids (at.Copy next) = IsStageOf side ids next
CopiesSide side ids (at.Merge next) = ⊥

abbrev pub MergesSides : Side → Side → CopyAt → Type 0
MergesSides ours theirs at.Begin = ⊥
MergesSides ours theirs (at.Copy next) = ⊥
MergesSides ours theirs (at.Merge next) = IsMergeOf ours theirs next
