-- Copied whole: what a copy did for each destination that it hands over to be cleared.
use Rattle.std.specs.Prelude.{◌≡◌, ℕ, ◌-◌, ◌<◌, ◌≤◌, min, true, false, List, [], ◌∷◌, ◌++◌, length, Contains, All, Some, None}
use Rattle.std.specs.List.{AllByRecursion}
use Rattle.flr_base.specs.declared.reply.Left.{Left}
use Rattle.flr_base.specs.declared.reply.ObjectId.{ObjectId}
use Rattle.composite_layout.specs.declared.component.Component.{Component}
use Rattle.extent_lock.specs.Extents.{writer_but}
use Rattle.layout_lease.specs.Leases.{KeyView}
use Rattle.mirror_select.specs.Candidates.{chosen}
use Rattle.mirror_select.specs.Pieces.{piece_at}
use Rattle.object_target.specs.declared.call.CallAnswer.TheVariants as answer
use Rattle.meta_server.specs.declared.answers.Begun.TheVariants as begun_as
use Rattle.meta_server.specs.declared.answers.CopyWhat.{CopyWhat}
use Rattle.meta_server.specs.declared.answers.Side.{Side}
use Rattle.meta_server.specs.Beginning.{copy_begins}
use Rattle.meta_server.specs.Closing.{size_of}
use Rattle.meta_server.specs.Outcomes.{Gives}
use Rattle.call_steps.specs.Pieces.{object_of}
use Rattle.call_steps.specs.Runs.{CallStep, IsRun}
use Rattle.resync_copy.specs.declared.phase.CopyAt.TheVariants as at
use Rattle.resync_copy.specs.declared.phase.CopyStage.TheVariants as stage
use Rattle.resync_copy.specs.Calls.{CopyView}
use Rattle.resync_copy.specs.Chunks.{chunk_range, chunk_start}
use Rattle.resync_copy.specs.Copies.{new_copy}
use Rattle.resync_copy.specs.Parts.{overlap, with_id}
use Rattle.resync_copy.specs.Steps.{copy_step}
use Rattle.copy_laws.specs.Did.{CallsObject, HasStep, IsFence, IsMade, IsOkPut, IsReset, IsTake, take_of}

-- a component of the layout from which bytes of a destination can come: it is fresh, has its objects, and overlaps it
pub record IsFreshOver (cs : List Component) (d c : Component) : Type 0 where
  pub listed : Contains cs c
  pub fresh : c.flags.stale ≡ false
  pub made : c.flags.init ≡ true
  pub over : overlap d.extent c.extent ≡ true

-- a component of the layout one of whose takes failed in one of these steps
pub record HasFailed (cs : List Component) (steps : List (CallStep CopyView)) (id : ℕ) : Type 0 where
  pub component : Component
  pub listed : Contains cs component
  pub same : component.id ≡ id
  pub start : ℕ
  pub end : ℕ
  pub there : (piece_at component start end).object ≡ Some (object_of (piece_at component start end))
  pub failed : HasStep (λ made. CallsObject made (object_of (piece_at component start end)) (take_of (piece_at component start end) answer.Failed)) steps

-- a chunk of a destination was copied in these steps: its bytes were taken from a fresh component of the layout, and put in the next step; or who is to answer it, without those whose takes failed, has no objects, so that there are zeros
pub data ChunkIsCopied (cs : List Component) (d : Component) (generation size number : ℕ) (steps : List (CallStep CopyView)) : Type 0 where
  ByCalls : (source : Component) (bytes : List ℕ) (before after : List (CallStep CopyView)) (taken put : CallStep CopyView)
      → steps ≡ before ++ taken ∷ put ∷ after
      → Contains cs source → source.flags.stale ≡ false
      → length bytes ≡ (chunk_range number (min d.extent.end size)).end - chunk_start number
      → IsTake (piece_at source (chunk_start number) (chunk_range number (min d.extent.end size)).end) bytes taken
      → IsOkPut (piece_at d (chunk_start number) (chunk_range number (min d.extent.end size)).end) generation bytes put
      → ChunkIsCopied cs d generation size number steps
  ByHole : (failed : List ℕ) (source : Component)
      → AllByRecursion (HasFailed cs steps) failed → chosen cs failed (chunk_start number) ≡ Some source → source.flags.init ≡ false
      → ChunkIsCopied cs d generation size number steps

-- the destination with this id was copied whole by a copy with this key: after its begin each object of each source was fenced with the begin's generation; then each object of the destination was reset; then came the settle, where nobody else had a PW lock on an object of a source, and where the size was read; and then each chunk below that size was copied
pub record CopiesWhole (c : CopyView) (key : KeyView) (id : ℕ) (steps : List (CallStep CopyView)) : Type 0 where
  pub side : Side
  pub ids : List ℕ
  pub key_is : side.key ≡ key
  pub listed : Contains ids id
  pub component : Component
  pub found : with_id side.layout.components id ≡ Some component
  pub begin : CallStep CopyView
  pub fences : List (CallStep CopyView)
  pub resets : List (CallStep CopyView)
  pub settle : CallStep CopyView
  pub others : List (CallStep CopyView)
  pub own : List (CallStep CopyView)
  pub rest : List (CallStep CopyView)
  pub in_order : steps ≡ begin ∷ (fences ++ (resets ++ settle ∷ (others ++ (own ++ rest))))
  pub begun : copy_begins c.client c.name c.what begin.before.meta ≡ Gives (begun_as.Copy side ids) begin.after.meta
  pub fenced : (source : Component) (o : ObjectId) → IsFreshOver side.layout.components component source → Contains source.objects o → HasStep (IsFence o side.layout.generation) fences
  pub emptied : (o : ObjectId) → Contains component.objects o → HasStep (IsReset o side.layout.generation) resets
  pub alone : (source : Component) (o : ObjectId) → IsFreshOver side.layout.components component source → Contains source.objects o → writer_but settle.before.locks c.client o ≡ None
  pub still : settle.after ≡ settle.before
  pub size : ℕ
  pub size_is : size_of side.file settle.before.meta ≡ Some size
  pub copied : (number : ℕ) → component.extent.start ≤ chunk_start number → chunk_start number < min component.extent.end size → ChunkIsCopied side.layout.components component side.layout.generation size number own

-- each destination that a copy hands over to be cleared was copied whole
abbrev pub ClearedAreWhole : Type 0
ClearedAreWhole =
    (client : ℕ) (name : List ℕ) (what : CopyWhat) (steps : List (CallStep CopyView)) (made : CallStep CopyView) (key : KeyView) (cleared : List ℕ) (left : List Left) →
    IsRun copy_step (new_copy client name what) (steps ++ made ∷ []) → All IsMade (steps ++ made ∷ []) →
    made.call.at ≡ at.Copy (stage.Done key cleared left) → (id : ℕ) → Contains cleared id → CopiesWhole (new_copy client name what) key id steps
