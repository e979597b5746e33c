-- What each phase of a copy says of the steps so far.
use Rattle.std.proofs.Common.{◌≡◌, ℕ, ◌-◌, ◌<◌, ◌≤◌, min, true, false, List, [], ◌∷◌, ◌++◌, length, map, Option, None, Some}
use Rattle.std.specs.Prelude.{Contains, slice_index}
use Rattle.std.specs.List.{AllByRecursion}
use Rattle.extent_lock.specs.Extents.{writer_but}
use Rattle.mirror_select.specs.Pieces.{piece_at}
use Rattle.meta_server.specs.declared.answers.Begun.TheVariants as begun_as
use Rattle.meta_server.specs.Beginning.{copy_begins}
use Rattle.meta_server.specs.Closing.{size_of}
use Rattle.meta_server.specs.Outcomes.{Gives}
use Rattle.call_steps.specs.Runs.{CallStep}
use Rattle.resync_copy.specs.declared.phase.Chunk.{Chunk}
use Rattle.resync_copy.specs.declared.phase.CopyAt.{CopyAt}
use Rattle.resync_copy.specs.declared.phase.CopyAt.TheVariants as at
use Rattle.resync_copy.specs.declared.phase.CopyStage.{CopyStage}
use Rattle.resync_copy.specs.declared.phase.CopyStage.TheVariants as stage
use Rattle.resync_copy.specs.Calls.{CopyView}
use Rattle.resync_copy.specs.Chunks.{chunk_range, chunk_start}
use Rattle.resync_copy.specs.Copies.{object_at}
use Rattle.resync_copy.specs.Parts.{destination_at, destinations_in, is_kept, is_open, overlaps_kept, with_id}
use Rattle.resync_copy.specs.Views.{CopyingView, fences_of, resets_of}
use Rattle.composite_layout.specs.declared.component.Component.{Component}
use Rattle.layout_lease.specs.Leases.{KeyView}
use Rattle.flr_base.specs.declared.reply.ObjectId.{ObjectId}
use Rattle.meta_server.specs.declared.answers.Side.{Side}
use Rattle.flr_steps.specs.Destinations.{copy_destination}
use Rattle.copy_laws.specs.Whole.{IsFreshOver}
use Rattle.copy_laws.specs.Did.{HasStep, IsFence, IsReset, IsTake}
use Rattle.copy_laws.specs.Whole.{HasFailed}
use Rattle.mirror_select.specs.Candidates.{chosen, has_byte}
use Rattle.object_target.specs.declared.call.CallAnswer.TheVariants as answer
use Rattle.object_target.specs.Calls.{write_answer}
use Rattle.call_steps.specs.Pieces.{object_of}
use Rattle.resync_copy.specs.Copies.{target_of}
use Rattle.copy_laws.specs.Did.{IsOkPut}
use Rattle.copy_laws.proofs.Less.{unleft}
use Rattle.copy_laws.proofs.Runs.{Stands}

-- the step takes or puts a chunk for the component with this id
abbrev pub IsFor : ℕ → CallStep CopyView → Type 0
IsFor id y = copy_destination y.call.at ≡ Some id

-- a chunk of a destination was copied in these steps: its bytes were taken from a fresh component of the layout, and put in the next step; or who is to answer it, without those whose takes failed, has no objects, so that there are zeros
pub data ChunkIsCopied (cs : List Component) (d : Component) (generation size number : ℕ) (steps : List (CallStep CopyView)) : Type 0 where
  ByCalls : (source : Component) (bytes : List ℕ) (before after : List (CallStep CopyView)) (taken put : CallStep CopyView)
      → steps ≡ before ++ taken ∷ put ∷ after
      → Contains cs source → source.flags.stale ≡ false → has_byte (chunk_start number) source ≡ true
      → length bytes ≡ (chunk_range number (min d.extent.end size)).end - chunk_start number
      → IsTake (piece_at source (chunk_start number) (chunk_range number (min d.extent.end size)).end) bytes taken
      → IsOkPut (piece_at d (chunk_start number) (chunk_range number (min d.extent.end size)).end) generation bytes put
      → write_answer (target_of put.before (object_of (piece_at d (chunk_start number) (chunk_range number (min d.extent.end size)).end))) (object_of (piece_at d (chunk_start number) (chunk_range number (min d.extent.end size)).end)).number generation ≡ answer.Ok
      → ChunkIsCopied cs d generation size number steps
  ByHole : (failed : List ℕ) (source : Component)
      → AllByRecursion (HasFailed cs steps) failed → chosen cs failed (chunk_start number) ≡ Some source → source.flags.init ≡ false
      → ChunkIsCopied cs d generation size number steps

-- the destination with this id was copied whole by a copy with this key: after its begin each object of each source was fenced with the begin's generation; then each object of the destination was reset; then came the settle, where nobody else had a PW lock on an object of a source, and where the size was read; and then each chunk below that size was copied
pub record CopiesWhole (c : CopyView) (key : KeyView) (id : ℕ) (steps : List (CallStep CopyView)) : Type 0 where
  pub side : Side
  pub ids : List ℕ
  pub key_is : side.key ≡ key
  pub listed : Contains ids id
  pub component : Component
  pub found : with_id side.layout.components id ≡ Some component
  pub begin : CallStep CopyView
  pub fences : List (CallStep CopyView)
  pub resets : List (CallStep CopyView)
  pub settle : CallStep CopyView
  pub others : List (CallStep CopyView)
  pub own : List (CallStep CopyView)
  pub rest : List (CallStep CopyView)
  pub in_order : steps ≡ begin ∷ (fences ++ (resets ++ settle ∷ (others ++ (own ++ rest))))
  pub begun : copy_begins c.client c.name c.what begin.before.meta ≡ Gives (begun_as.Copy side ids) begin.after.meta
  pub fenced : (source : Component) (o : ObjectId) → IsFreshOver side.layout.components component source → Contains source.objects o → HasStep (IsFence o side.layout.generation) fences
  pub emptied : (o : ObjectId) → Contains component.objects o → HasStep (IsReset o side.layout.generation) resets
  pub alone : (source : Component) (o : ObjectId) → IsFreshOver side.layout.components component source → Contains source.objects o → writer_but settle.before.locks c.client o ≡ None
  pub still : settle.after ≡ settle.before
  pub size : ℕ
  pub size_is : size_of side.file settle.before.meta ≡ Some size
  pub copied : (number : ℕ) → component.extent.start ≤ chunk_start number → chunk_start number < min component.extent.end size → ChunkIsCopied side.layout.components component side.layout.generation size number own
  pub mine : AllByRecursion (IsFor id) own

-- each of the first so many objects to fence that overlaps a kept destination was fenced in these steps
abbrev pub AreFenced : CopyingView → ℕ → List (CallStep CopyView) → Type 0
AreFenced x next steps =
    (i : ℕ) → i < next → i < length (fences_of x) → overlaps_kept x.destinations (object_at (fences_of x) i).extent ≡ true
    → HasStep (IsFence (object_at (fences_of x) i).object x.side.layout.generation) steps

-- each of the first so many objects to reset whose destination is kept was reset in these steps
abbrev pub AreReset : CopyingView → ℕ → List (CallStep CopyView) → Type 0
AreReset x next steps =
    (i : ℕ) → i < next → i < length (resets_of x) → is_open x.destinations (object_at (resets_of x) i).component ≡ true
    → HasStep (IsReset (object_at (resets_of x) i).object x.side.layout.generation) steps

-- at this step nobody else wrote to an object of a source of a kept destination
abbrev pub AreAlone : CopyView → CopyingView → CallStep CopyView → Type 0
AreAlone c x settle =
    (i : ℕ) → i < length (fences_of x) → overlaps_kept x.destinations (object_at (fences_of x) i).extent ≡ true
    → writer_but settle.before.locks c.client (object_at (fences_of x) i).object ≡ None

-- the copy began with this step; its destinations are those of the begin, some of them left
pub record HasBegun (c : CopyView) (x : CopyingView) (begin : CallStep CopyView) : Type 0 where
  pub begun : copy_begins c.client c.name c.what begin.before.meta ≡ Gives (begun_as.Copy x.side x.ids) begin.after.meta
  pub same : map unleft x.destinations ≡ destinations_in x.side.layout.components x.ids

-- so many fences are made
pub record IsFencing (c : CopyView) (steps : List (CallStep CopyView)) (x : CopyingView) (next : ℕ) : Type 0 where
  pub begin : CallStep CopyView
  pub fences : List (CallStep CopyView)
  pub in_order : steps ≡ begin ∷ fences
  pub begun : HasBegun c x begin
  pub fenced : AreFenced x next fences

-- all fences are made, and so many resets
pub record IsResetting (c : CopyView) (steps : List (CallStep CopyView)) (x : CopyingView) (next : ℕ) : Type 0 where
  pub begin : CallStep CopyView
  pub fences : List (CallStep CopyView)
  pub resets : List (CallStep CopyView)
  pub in_order : steps ≡ begin ∷ (fences ++ resets)
  pub begun : HasBegun c x begin
  pub fenced : AreFenced x (length (fences_of x)) fences
  pub emptied : AreReset x next resets

-- all fences and resets are made, and then the settle, where the file had this size
pub record IsSettled (c : CopyView) (x : CopyingView) (size : ℕ) (begin : CallStep CopyView) (fences resets : List (CallStep CopyView)) (settle : CallStep CopyView) : Type 0 where
  pub begun : HasBegun c x begin
  pub fenced : AreFenced x (length (fences_of x)) fences
  pub emptied : AreReset x (length (resets_of x)) resets
  pub alone : AreAlone c x settle
  pub still : settle.after ≡ settle.before
  pub size_is : size_of x.side.file settle.before.meta ≡ Some size

-- each kept destination before this place was copied whole
abbrev pub AreWhole : CopyView → List (CallStep CopyView) → CopyingView → ℕ → Type 0
AreWhole c steps x place =
    (p : ℕ) → p < place → p < length x.destinations → is_kept (destination_at x.destinations p) ≡ true → CopiesWhole c x.side.key (slice_index x.ids p) steps

-- the kept destinations before this place were copied
pub record IsReady (c : CopyView) (steps : List (CallStep CopyView)) (x : CopyingView) (size place : ℕ) : Type 0 where
  pub begin : CallStep CopyView
  pub fences : List (CallStep CopyView)
  pub resets : List (CallStep CopyView)
  pub settle : CallStep CopyView
  pub others : List (CallStep CopyView)
  pub in_order : steps ≡ begin ∷ (fences ++ (resets ++ settle ∷ others))
  pub settled : IsSettled c x size begin fences resets settle
  pub whole : AreWhole c steps x place

-- and of the one at this place the chunks before this number
pub record IsCopyingAt (c : CopyView) (steps : List (CallStep CopyView)) (x : CopyingView) (size place : ℕ) (failed : List ℕ) (number : ℕ) : Type 0 where
  pub begin : CallStep CopyView
  pub fences : List (CallStep CopyView)
  pub resets : List (CallStep CopyView)
  pub settle : CallStep CopyView
  pub others : List (CallStep CopyView)
  pub own : List (CallStep CopyView)
  pub in_order : steps ≡ begin ∷ (fences ++ (resets ++ settle ∷ (others ++ own)))
  pub settled : IsSettled c x size begin fences resets settle
  pub whole : AreWhole c steps x place
  pub there : place < length x.destinations
  pub kept : is_kept (destination_at x.destinations place) ≡ true
  pub component : Component
  pub found : with_id x.side.layout.components (slice_index x.ids place) ≡ Some component
  pub extent : (destination_at x.destinations place).extent ≡ component.extent
  pub were : AllByRecursion (HasFailed x.side.layout.components own) failed
  pub copied : (n : ℕ) → component.extent.start ≤ chunk_start n → n < number → chunk_start n < min component.extent.end size
      → ChunkIsCopied x.side.layout.components component x.side.layout.generation size n own
  pub mine : AllByRecursion (IsFor (slice_index x.ids place)) own

-- the chunk was taken in the last step
pub record IsPutting (c : CopyView) (steps : List (CallStep CopyView)) (h : Chunk) (bytes : List ℕ) : Type 0 where
  pub front : List (CallStep CopyView)
  pub taken : CallStep CopyView
  pub in_order : steps ≡ front ++ taken ∷ []
  pub mine : IsFor (slice_index h.copying.ids h.place) taken
  pub copying : IsCopyingAt c front h.copying h.size h.place h.failed h.number
  pub source : Component
  pub listed : Contains h.copying.side.layout.components source
  pub fresh : source.flags.stale ≡ false
  pub over : has_byte (chunk_start h.number) source ≡ true
  pub take : IsTake (piece_at source (chunk_start h.number) (chunk_range h.number (min copying.component.extent.end h.size)).end) bytes taken

abbrev pub HoldsStage : CopyView → List (CallStep CopyView) → CopyStage → Type 0
HoldsStage c steps (stage.Fence x next) = IsFencing c steps x next
HoldsStage c steps (stage.Reset x next) = IsResetting c steps x next
HoldsStage c steps (stage.Settle x) = IsResetting c steps x (length (resets_of x))
HoldsStage c steps (stage.Take h) = IsCopyingAt c steps h.copying h.size h.place h.failed h.number
HoldsStage c steps (stage.Put h bytes) = IsPutting c steps h bytes
HoldsStage c steps (stage.Done key cleared left) = (id : ℕ) → Contains cleared id → CopiesWhole c key id steps

abbrev pub HoldsAt : CopyView → List (CallStep CopyView) → CopyAt → Type 0
HoldsAt c steps at.Begin = steps ≡ []
HoldsAt c steps (at.Copy next) = HoldsStage c steps next
HoldsAt c steps (at.Merge next) = Unit {0}

-- the call is the one that was begun, and its phase holds
abbrev pub Holds : CopyView → List (CallStep CopyView) → Option CopyView → Type 0
Holds c = Stands c (HoldsAt c)
