-- What each phase of a merge says of the steps so far.
use Rattle.std.proofs.Common.{◌≡◌, ℕ, ◌<◌, List, [], ◌∷◌, length, Option, None, Some}
use Rattle.std.specs.List.{AllByRecursion}
use Rattle.flr_base.specs.declared.reply.Reply.{Reply}
use Rattle.flr_base.specs.declared.reply.Reply.TheVariants as reply
use Rattle.layout_lease.specs.Leases.{KeyView}
use Rattle.meta_server.specs.declared.answers.Begun.TheVariants as begun_as
use Rattle.meta_server.specs.Beginning.{copy_begins}
use Rattle.meta_server.specs.Closing.{size_of}
use Rattle.meta_server.specs.Outcomes.{Gives}
use Rattle.call_steps.specs.Runs.{CallStep}
use Rattle.resync_copy.specs.declared.merge_phase.MergeStage.{MergeStage}
use Rattle.resync_copy.specs.declared.merge_phase.MergeStage.TheVariants as merge
use Rattle.resync_copy.specs.declared.phase.CopyAt.{CopyAt}
use Rattle.resync_copy.specs.declared.phase.CopyAt.TheVariants as at
use Rattle.resync_copy.specs.Calls.{CopyView}
use Rattle.resync_copy.specs.Chunks.{chunk_start}
use Rattle.resync_copy.specs.Comparing.{ComparingView, merge_fences, version_at}
use Rattle.resync_copy.specs.Copies.{object_at}
use Rattle.copy_laws.specs.Did.{HasStep, IsFence}
use Rattle.copy_laws.specs.Merged.{DifferFirst, HasChunk, IsMerging, IsSameChunk, MayTakeIn}
use Rattle.copy_laws.specs.Whole.{HasFailed}
use Rattle.copy_laws.proofs.Runs.{Stands}

-- the first so many objects to fence were fenced in these steps, each with the generation of its file
abbrev pub AreMergeFenced : ComparingView → ℕ → List (CallStep CopyView) → Type 0
AreMergeFenced x next steps = (i : ℕ) → i < next → i < length (merge_fences x) → HasStep (IsFence (object_at (merge_fences x) i).object (version_at x i)) steps

-- so many fences are made
pub record IsMergeFencing (c : CopyView) (steps : List (CallStep CopyView)) (x : ComparingView) (next : ℕ) : Type 0 where
  pub begin : CallStep CopyView
  pub fences : List (CallStep CopyView)
  pub in_order : steps ≡ begin ∷ fences
  pub begun : copy_begins c.client c.name c.what begin.before.meta ≡ Gives (begun_as.Merge x.ours x.theirs) begin.after.meta
  pub fenced : AreMergeFenced x next fences

-- the settle is made, and the chunks before this number are compared
pub record IsPairing (c : CopyView) (steps : List (CallStep CopyView)) (x : ComparingView) (size : ℕ) (our_failed their_failed : List ℕ) (number : ℕ) : Type 0 where
  pub settle : CallStep CopyView
  pub takes : List (CallStep CopyView)
  pub merging : IsMerging c x.ours x.theirs steps settle takes
  pub our_size : size_of x.ours.file settle.before.meta ≡ Some size
  pub their_size : size_of x.theirs.file settle.before.meta ≡ Some size
  pub our_were : AllByRecursion (HasFailed x.ours.layout.components takes) our_failed
  pub their_were : AllByRecursion (HasFailed x.theirs.layout.components takes) their_failed
  pub same : (n : ℕ) → n < number → chunk_start n < size → IsSameChunk x.ours.layout.components x.theirs.layout.components size n takes

-- and what our file has of that chunk is in hand
pub record IsHalfway (c : CopyView) (steps : List (CallStep CopyView)) (x : ComparingView) (size : ℕ) (our_failed their_failed : List ℕ) (number : ℕ) (ours : Option (List ℕ)) : Type 0 where
  pub pairing : IsPairing c steps x size our_failed their_failed number
  pub chunk : HasChunk x.ours.layout.components size number pairing.takes ours

-- what is to be answered was found
abbrev pub IsFound : CopyView → KeyView → KeyView → List (CallStep CopyView) → Reply → Type 0
IsFound c ours theirs steps (reply.DifferAt offset our_byte their_byte) = DifferFirst c ours theirs offset our_byte their_byte steps
IsFound c ours theirs steps other = Unit {0}

abbrev pub EndsSo : CopyView → KeyView → KeyView → List (CallStep CopyView) → Option Reply → Type 0
EndsSo c ours theirs steps None = MayTakeIn c ours theirs steps
EndsSo c ours theirs steps (Some refusal) = IsFound c ours theirs steps refusal

abbrev pub MergeHolds : CopyView → List (CallStep CopyView) → MergeStage → Type 0
MergeHolds c steps (merge.Fence x next) = IsMergeFencing c steps x next
MergeHolds c steps (merge.Settle x) = IsMergeFencing c steps x (length (merge_fences x))
MergeHolds c steps (merge.TakeOurs p) = IsPairing c steps p.comparing p.size p.our_failed p.their_failed p.number
MergeHolds c steps (merge.TakeTheirs p ours) = IsHalfway c steps p.comparing p.size p.our_failed p.their_failed p.number ours
MergeHolds c steps (merge.Done ours theirs refusal) = EndsSo c ours theirs steps refusal

abbrev pub MergeAt : CopyView → List (CallStep CopyView) → CopyAt → Type 0
MergeAt c steps at.Begin = steps ≡ []
MergeAt c steps (at.Copy next) = Unit {0}
MergeAt c steps (at.Merge next) = MergeHolds c steps next

abbrev pub Merges : CopyView → List (CallStep CopyView) → Option CopyView → Type 0
Merges c = Stands c (MergeAt c)
