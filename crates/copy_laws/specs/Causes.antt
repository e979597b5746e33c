-- Why a copy leaves a destination: the call of its own that failed.
use Rattle.std.specs.Prelude.{◌≡◌, ℕ, ◌<◌, nat_eq, List, [], ◌∷◌, ◌++◌, length, Contains, All, Option, Some, None, slice_index, if◌then◌else◌}
use Rattle.std.specs.List.{AllByRecursion}
use Rattle.flr_base.specs.declared.reply.FailedCall.{FailedCall}
use Rattle.flr_base.specs.declared.reply.Left.{Left}
use Rattle.flr_base.specs.declared.reply.Range.{Range}
use Rattle.layout_lease.specs.Leases.{KeyView}
use Rattle.object_target.specs.declared.call.CallAnswer.{CallAnswer}
use Rattle.object_target.specs.declared.call.CallAnswer.TheVariants as answer
use Rattle.object_target.specs.declared.call.CallEntry.{CallEntry}
use Rattle.object_target.specs.declared.call.CallKind.{CallKind}
use Rattle.object_target.specs.declared.call.CallKind.TheVariants as kind
use Rattle.object_target.specs.Calls.{fence_answer, read_answer, reset_answer, write_answer}
use Rattle.meta_server.specs.declared.answers.Begun.TheVariants as begun_as
use Rattle.meta_server.specs.declared.answers.CopyWhat.{CopyWhat}
use Rattle.meta_server.specs.declared.answers.Side.{Side}
use Rattle.meta_server.specs.Beginning.{copy_begins}
use Rattle.meta_server.specs.Outcomes.{Gives}
use Rattle.call_steps.specs.Pieces.{object_of}
use Rattle.call_steps.specs.Runs.{CallStep, Calls, IsRun, IsStepOf}
use Rattle.call_steps.specs.Servers.{Servers, next_call_on}
use Rattle.resync_copy.specs.declared.phase.CopyAt.{CopyAt}
use Rattle.resync_copy.specs.declared.phase.CopyAt.TheVariants as at
use Rattle.resync_copy.specs.declared.phase.CopyStage.{CopyStage}
use Rattle.resync_copy.specs.declared.phase.CopyStage.TheVariants as stage
use Rattle.resync_copy.specs.Calls.{CopyView}
use Rattle.resync_copy.specs.Copies.{new_copy, object_at, piece_from, piece_to, target_of}
use Rattle.resync_copy.specs.Parts.{extent_with, overlap}
use Rattle.resync_copy.specs.Steps.{copy_step}
use Rattle.resync_copy.specs.Views.{fences_of, resets_of}
use Rattle.copy_laws.specs.Did.{IsMade}

-- the call, if it failed
abbrev pub if_failed : CallAnswer → FailedCall → Option FailedCall
if_failed answer.Ok call = None
if_failed (answer.Old kept) call = None
if_failed answer.Failed call = Some call

-- ---- the call of a step that failed, if one did: by what the step was to do

-- the fence of an object of a component that overlaps these bytes
abbrev pub fence_failed_in : Range → CopyStage → Servers → Option FailedCall
fence_failed_in r (stage.Fence x next) s =
    if overlap r (object_at (fences_of x) next).extent
    then if_failed (fence_answer (target_of s (object_at (fences_of x) next).object)) (next_call_on s.targets (object_at (fences_of x) next).object.target)
    else None
fence_failed_in r (stage.Reset x next) s = None
fence_failed_in r (stage.Settle x) s = None
fence_failed_in r (stage.Take h) s = None
fence_failed_in r (stage.Put h bytes) s = None
fence_failed_in r (stage.Done key cleared left) s = None

-- the reset of an object of the component with this id
abbrev pub reset_failed_in : ℕ → CopyStage → Servers → Option FailedCall
reset_failed_in id (stage.Fence x next) s = None
reset_failed_in id (stage.Reset x next) s =
    if nat_eq (object_at (resets_of x) next).component id
    then if_failed (reset_answer (target_of s (object_at (resets_of x) next).object) (object_at (resets_of x) next).object.number x.side.layout.generation) (next_call_on s.targets (object_at (resets_of x) next).object.target)
    else None
reset_failed_in id (stage.Settle x) s = None
reset_failed_in id (stage.Take h) s = None
reset_failed_in id (stage.Put h bytes) s = None
reset_failed_in id (stage.Done key cleared left) s = None

-- the take of a chunk for the destination at this place
abbrev pub take_failed_in : ℕ → CopyStage → Servers → Option FailedCall
take_failed_in place (stage.Fence x next) s = None
take_failed_in place (stage.Reset x next) s = None
take_failed_in place (stage.Settle x) s = None
take_failed_in place (stage.Take h) s = if nat_eq h.place place then if_failed (read_answer (target_of s (object_of (piece_from h)))) (next_call_on s.targets (object_of (piece_from h)).target) else None
take_failed_in place (stage.Put h bytes) s = None
take_failed_in place (stage.Done key cleared left) s = None

-- the put of a chunk to the destination at this place
abbrev pub put_failed_in : ℕ → CopyStage → Servers → Option FailedCall
put_failed_in place (stage.Fence x next) s = None
put_failed_in place (stage.Reset x next) s = None
put_failed_in place (stage.Settle x) s = None
put_failed_in place (stage.Take h) s = None
put_failed_in place (stage.Put h bytes) s =
    if nat_eq h.place place
    then if_failed (write_answer (target_of s (object_of (piece_to h))) (object_of (piece_to h)).number h.copying.side.layout.generation) (next_call_on s.targets (object_of (piece_to h)).target)
    else None
put_failed_in place (stage.Done key cleared left) s = None

-- of a step of a copy that has begun
abbrev pub of_stage : (CopyStage → Servers → Option FailedCall) → CopyAt → Servers → Option FailedCall
of_stage f at.Begin s = None
of_stage f (at.Copy next) s = f next s
of_stage f (at.Merge next) s = None

abbrev pub fence_failed : Range → CallStep CopyView → Option FailedCall
fence_failed r made = of_stage (fence_failed_in r) made.call.at made.before

abbrev pub reset_failed : ℕ → CallStep CopyView → Option FailedCall
reset_failed id made = of_stage (reset_failed_in id) made.call.at made.before

abbrev pub take_failed : ℕ → CallStep CopyView → Option FailedCall
take_failed place made = of_stage (take_failed_in place) made.call.at made.before

abbrev pub put_failed : ℕ → CallStep CopyView → Option FailedCall
put_failed place made = of_stage (put_failed_in place) made.call.at made.before

-- ---- why a destination is left

-- the call is why the destination at this place, with this id and these bytes, is left: of its sources' fences the first that failed, a reset of its own that failed, of the takes for it the last that failed, or a put to it that failed
pub data IsCause (place id : ℕ) (extent : Range) (steps : List (CallStep CopyView)) (call : FailedCall) : Type 0 where
  FirstFence : (front rest : List (CallStep CopyView)) (made : CallStep CopyView) → steps ≡ front ++ made ∷ rest → fence_failed extent made ≡ Some call
      → AllByRecursion (λ (m : CallStep CopyView). fence_failed extent m ≡ None) front → IsCause place id extent steps call
  SomeReset : (made : CallStep CopyView) → Contains steps made → reset_failed id made ≡ Some call → IsCause place id extent steps call
  LastTake : (front rest : List (CallStep CopyView)) (made : CallStep CopyView) → steps ≡ front ++ made ∷ rest → take_failed place made ≡ Some call
      → AllByRecursion (λ (m : CallStep CopyView). take_failed place m ≡ None) rest → IsCause place id extent steps call
  SomePut : (made : CallStep CopyView) → Contains steps made → put_failed place made ≡ Some call → IsCause place id extent steps call

-- a destination that a copy with this key left: it is one of the begin, and its call is why it is left
pub record IsLeftRightly (c : CopyView) (key : KeyView) (l : Left) (steps : List (CallStep CopyView)) : Type 0 where
  pub side : Side
  pub ids : List ℕ
  pub key_is : side.key ≡ key
  pub begin : CallStep CopyView
  pub made : Contains steps begin
  pub begun : copy_begins c.client c.name c.what begin.before.meta ≡ Gives (begun_as.Copy side ids) begin.after.meta
  pub place : ℕ
  pub there : place < length ids
  pub id : l.component ≡ slice_index ids place
  pub cause : IsCause place l.component (extent_with side.layout.components l.component) steps l.call

-- each destination that a copy left is left for a call of its own that failed
abbrev pub LeftHaveCauses : Type 0
LeftHaveCauses =
    (client : ℕ) (name : List ℕ) (what : CopyWhat) (steps : List (CallStep CopyView)) (made : CallStep CopyView) (key : KeyView) (cleared : List ℕ) (left : List Left) →
    IsRun copy_step (new_copy client name what) (steps ++ made ∷ []) → All IsMade (steps ++ made ∷ []) →
    made.call.at ≡ at.Copy (stage.Done key cleared left) → (l : Left) → Contains left l → IsLeftRightly (new_copy client name what) key l steps

-- the step made this call of a target, which is of this kind and failed, as the target's log has it
abbrev pub IsFailedCall : CallKind → CallStep CopyView → FailedCall → Type 0
IsFailedCall of made call = (entry : CallEntry) × (entry.kind ≡ of) × (entry.answer ≡ answer.Failed) × Calls made call.target call.call entry

-- each such call is one that the step made, and that failed
abbrev pub FailedAreLogged : Type 0
FailedAreLogged =
    (made : CallStep CopyView) (last : ℕ) (call : FailedCall) → IsMade made → IsStepOf copy_step made.call last made →
    ((extent : Range) → fence_failed extent made ≡ Some call → IsFailedCall kind.Fence made call)
    × ((id : ℕ) → reset_failed id made ≡ Some call → IsFailedCall kind.Reset made call)
    × ((place : ℕ) → take_failed place made ≡ Some call → IsFailedCall kind.Read made call)
    × ((place : ℕ) → put_failed place made ≡ Some call → IsFailedCall kind.Write made call)
