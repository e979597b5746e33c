-- What a merge did that takes another file in, or that tells where two files differ.
use Rattle.std.specs.Prelude.{◌≡◌, ◌≢◌, ◌⊎◌, ℕ, ◌+◌, ◌-◌, ◌<◌, ◌≤◌, true, false, List, [], ◌∷◌, ◌++◌, Contains, All, Option, Some, None}
use Rattle.std.specs.List.{AllByRecursion}
use Rattle.flr_base.specs.declared.reply.ObjectId.{ObjectId}
use Rattle.flr_base.specs.declared.reply.Reply.TheVariants as reply
use Rattle.flr_base.specs.declared.reply.Take.{Take}
use Rattle.composite_layout.specs.declared.component.Component.{Component}
use Rattle.extent_lock.specs.Extents.{writer_but}
use Rattle.layout_lease.specs.Leases.{KeyView}
use Rattle.mirror_select.specs.Candidates.{chosen}
use Rattle.mirror_select.specs.Pieces.{piece_at}
use Rattle.meta_server.specs.declared.answers.Begun.TheVariants as begun_as
use Rattle.meta_server.specs.declared.answers.CopyWhat.{CopyWhat}
use Rattle.meta_server.specs.declared.answers.Side.{Side}
use Rattle.meta_server.specs.Beginning.{copy_begins}
use Rattle.meta_server.specs.Closing.{is_there, size_of}
use Rattle.meta_server.specs.Outcomes.{Gives}
use Rattle.call_steps.specs.Runs.{CallStep, IsRun}
use Rattle.call_steps.specs.Servers.{Servers}
use Rattle.call_steps.specs.Steps.{Answered}
use Rattle.resync_copy.specs.declared.phase.CopyAt.TheVariants as at
use Rattle.resync_copy.specs.declared.merge_phase.MergeStage.TheVariants as merge
use Rattle.resync_copy.specs.Calls.{CopyView}
use Rattle.resync_copy.specs.Chunks.{chunk_range, chunk_start}
use Rattle.resync_copy.specs.Comparing.{is_compared}
use Rattle.resync_copy.specs.Copies.{new_copy}
use Rattle.resync_copy.specs.Merges.{byte_at}
use Rattle.resync_copy.specs.Steps.{copy_step}
use Rattle.copy_laws.specs.Did.{HasStep, IsFence, IsMade, IsTake}
use Rattle.copy_laws.specs.Whole.{HasFailed}

-- what a file has of a chunk: the bytes that a take from a fresh component gave in one of these steps; or none, and so zeros, where who is to answer it, without those whose takes failed, has no objects
pub data HasChunk (cs : List Component) (size number : ℕ) (steps : List (CallStep CopyView)) (bytes : Option (List ℕ)) : Type 0 where
  ByTake : (source : Component) (taken : List ℕ) (made : CallStep CopyView) → bytes ≡ Some taken → Contains steps made → Contains cs source → source.flags.stale ≡ false
      → IsTake (piece_at source (chunk_start number) (chunk_range number size).end) taken made → HasChunk cs size number steps bytes
  AsHole : (failed : List ℕ) (source : Component) → bytes ≡ None → AllByRecursion (HasFailed cs steps) failed → chosen cs failed (chunk_start number) ≡ Some source → source.flags.init ≡ false
      → HasChunk cs size number steps bytes

-- so many bytes of a chunk, from its first one on, are the same in both files
pub record AreSameBelow (ours theirs : List Component) (size number count : ℕ) (steps : List (CallStep CopyView)) : Type 0 where
  pub our_bytes : Option (List ℕ)
  pub their_bytes : Option (List ℕ)
  pub our_chunk : HasChunk ours size number steps our_bytes
  pub their_chunk : HasChunk theirs size number steps their_bytes
  pub same : (place : ℕ) → place < count → byte_at our_bytes place ≡ byte_at their_bytes place

-- the whole chunk is
abbrev pub IsSameChunk : List Component → List Component → ℕ → ℕ → List (CallStep CopyView) → Type 0
IsSameChunk ours theirs size number steps = AreSameBelow ours theirs size number ((chunk_range number size).end - chunk_start number) steps

-- each object of the fresh components of a file that have objects was fenced with the generation of its begin
abbrev pub IsFileFenced : Side → List (CallStep CopyView) → Type 0
IsFileFenced side steps = (d : Component) (o : ObjectId) → Contains side.layout.components d → is_compared d ≡ true → Contains d.objects o → HasStep (IsFence o side.layout.generation) steps

-- nobody else had a PW lock on one of these objects
abbrev pub IsFileAlone : ℕ → Side → CallStep CopyView → Type 0
IsFileAlone client side settle = (d : Component) (o : ObjectId) → Contains side.layout.components d → is_compared d ≡ true → Contains d.objects o → writer_but settle.before.locks client o ≡ None

-- the merge of two files up to its settle: it began with their layouts; then all their objects were fenced; and then came the settle
pub record IsMerging (c : CopyView) (ours theirs : Side) (steps : List (CallStep CopyView)) (settle : CallStep CopyView) (takes : List (CallStep CopyView)) : Type 0 where
  pub begin : CallStep CopyView
  pub fences : List (CallStep CopyView)
  pub in_order : steps ≡ begin ∷ (fences ++ settle ∷ takes)
  pub begun : copy_begins c.client c.name c.what begin.before.meta ≡ Gives (begun_as.Merge ours theirs) begin.after.meta
  pub our_fences : IsFileFenced ours fences
  pub their_fences : IsFileFenced theirs fences
  pub our_alone : IsFileAlone c.client ours settle
  pub their_alone : IsFileAlone c.client theirs settle
  pub still : settle.after ≡ settle.before

-- behind the settle, where both files had this size, the chunks before this number were the same
pub record AreSameBefore (c : CopyView) (ours theirs : Side) (steps : List (CallStep CopyView)) (size number : ℕ) : Type 0 where
  pub settle : CallStep CopyView
  pub takes : List (CallStep CopyView)
  pub merging : IsMerging c ours theirs steps settle takes
  pub our_size : size_of ours.file settle.before.meta ≡ Some size
  pub their_size : size_of theirs.file settle.before.meta ≡ Some size
  pub same : (n : ℕ) → n < number → chunk_start n < size → IsSameChunk ours.layout.components theirs.layout.components size n takes

-- one of the files was gone at the settle, so that its lease is broken
pub record WasGone (c : CopyView) (ours theirs : Side) (steps : List (CallStep CopyView)) : Type 0 where
  pub settle : CallStep CopyView
  pub takes : List (CallStep CopyView)
  pub merging : IsMerging c ours theirs steps settle takes
  pub gone : (size_of ours.file settle.before.meta ≡ None) ⊎ (size_of theirs.file settle.before.meta ≡ None)

-- all chunks of the files of these two keys are the same
pub record AreSame (c : CopyView) (ours theirs : KeyView) (steps : List (CallStep CopyView)) : Type 0 where
  pub our_side : Side
  pub their_side : Side
  pub our_key : our_side.key ≡ ours
  pub their_key : their_side.key ≡ theirs
  pub size : ℕ
  pub number : ℕ
  pub whole : size ≤ chunk_start number
  pub before : AreSameBefore c our_side their_side steps size number

-- what a merge has done whose end is to take the file in: all chunks of both files are the same, or one of them was gone
pub data MayTakeIn (c : CopyView) (ours theirs : KeyView) (steps : List (CallStep CopyView)) : Type 0 where
  Same : AreSame c ours theirs steps → MayTakeIn c ours theirs steps
  Gone : (our_side their_side : Side) → our_side.key ≡ ours → their_side.key ≡ theirs → WasGone c our_side their_side steps → MayTakeIn c ours theirs steps

-- a file that isn't there at one of these steps isn't there at a later one
abbrev pub StayGone : List (CallStep CopyView) → Type 0
StayGone steps =
    (front between behind : List (CallStep CopyView)) (early late : CallStep CopyView) (file : ℕ) →
    steps ≡ front ++ early ∷ (between ++ late ∷ behind) → is_there file early.before.meta ≡ false → is_there file late.before.meta ≡ false

-- the files differ first at this byte, where they have these two
pub record DifferFirst (c : CopyView) (ours theirs : KeyView) (offset our_byte their_byte : ℕ) (steps : List (CallStep CopyView)) : Type 0 where
  pub our_side : Side
  pub their_side : Side
  pub our_key : our_side.key ≡ ours
  pub their_key : their_side.key ≡ theirs
  pub size : ℕ
  pub number : ℕ
  pub place : ℕ
  pub before : AreSameBefore c our_side their_side steps size number
  pub chunk : AreSameBelow our_side.layout.components their_side.layout.components size number place before.takes
  pub within : place < (chunk_range number size).end - chunk_start number
  pub offset_is : offset ≡ chunk_start number + place
  pub our_is : our_byte ≡ byte_at chunk.our_bytes place
  pub their_is : their_byte ≡ byte_at chunk.their_bytes place
  pub differ : our_byte ≢ their_byte

-- a merge takes its victim in only where both files are the same, or where one is gone, whose lease is broken
abbrev pub MergesWhereSame : Type 0
MergesWhereSame =
    (client : ℕ) (name : List ℕ) (what : CopyWhat) (steps : List (CallStep CopyView)) (made : CallStep CopyView) (ours theirs : KeyView) →
    IsRun copy_step (new_copy client name what) (steps ++ made ∷ []) → All IsMade (steps ++ made ∷ []) →
    made.call.at ≡ at.Merge (merge.Done ours theirs None) → MayTakeIn (new_copy client name what) ours theirs steps

-- where files that are gone stay gone, a merge that answers that it took its victim in found both files the same
abbrev pub MergedAreSame : Type 0
MergedAreSame =
    (client : ℕ) (name : List ℕ) (what : CopyWhat) (steps : List (CallStep CopyView)) (made : CallStep CopyView) (ours theirs : KeyView) (ids : List ℕ) (takes : List Take) (after : Servers) →
    IsRun copy_step (new_copy client name what) (steps ++ made ∷ []) → All IsMade (steps ++ made ∷ []) → StayGone (steps ++ made ∷ []) →
    made.call.at ≡ at.Merge (merge.Done ours theirs None) → made.came ≡ Answered (reply.Merged ids) takes after → AreSame (new_copy client name what) ours theirs steps

-- a merge tells the first difference with its two bytes
abbrev pub TellsFirstDifference : Type 0
TellsFirstDifference =
    (client : ℕ) (name : List ℕ) (what : CopyWhat) (steps : List (CallStep CopyView)) (made : CallStep CopyView) (ours theirs : KeyView) (offset our_byte their_byte : ℕ) →
    IsRun copy_step (new_copy client name what) (steps ++ made ∷ []) → All IsMade (steps ++ made ∷ []) →
    made.call.at ≡ at.Merge (merge.Done ours theirs (Some (reply.DifferAt offset our_byte their_byte))) → DifferFirst (new_copy client name what) ours theirs offset our_byte their_byte steps
