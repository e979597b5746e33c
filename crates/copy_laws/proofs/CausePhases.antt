-- What each phase of a copy says of the calls for which destinations are left.
use Rattle.std.proofs.Common.{◌≡◌, ℕ, ◌+◌, ◌<◌, ◌≤◌, true, List, [], ◌∷◌, ◌++◌, length, Option, None, Some}
use Rattle.std.specs.Prelude.{Contains}
use Rattle.std.specs.List.{AllByRecursion}
use Rattle.flr_base.specs.declared.reply.FailedCall.{FailedCall}
use Rattle.flr_base.specs.declared.reply.Left.{Left}
use Rattle.call_steps.specs.Runs.{CallStep}
use Rattle.resync_copy.specs.declared.phase.CopyAt.{CopyAt}
use Rattle.resync_copy.specs.declared.phase.CopyAt.TheVariants as at
use Rattle.resync_copy.specs.declared.phase.CopyStage.{CopyStage}
use Rattle.resync_copy.specs.declared.phase.CopyStage.TheVariants as stage
use Rattle.resync_copy.specs.Calls.{CopyView}
use Rattle.resync_copy.specs.Chunks.{chunk_of}
use Rattle.resync_copy.specs.Parts.{destination_at, is_kept}
use Rattle.resync_copy.specs.Views.{CopyingView}
use Rattle.copy_laws.specs.Causes.{IsCause, IsLeftRightly, fence_failed, take_failed}
use Rattle.copy_laws.proofs.Phases.{HasBegun}
use Rattle.copy_laws.proofs.Runs.{Stands}

-- no take for a destination from this place on failed
abbrev pub NoneTaken : List (CallStep CopyView) → ℕ → Type 0
NoneTaken steps place = (p : ℕ) → place ≤ p → AllByRecursion (λ (m : CallStep CopyView). take_failed p m ≡ None) steps

-- of the takes for the destination at this place that failed this is the last, or none failed
abbrev pub LastOf : List (CallStep CopyView) → ℕ → Option FailedCall → Type 0
LastOf steps place None = AllByRecursion (λ (m : CallStep CopyView). take_failed place m ≡ None) steps
LastOf steps place (Some call) =
    (front : List (CallStep CopyView)) × (rest : List (CallStep CopyView)) × (made : CallStep CopyView) × (steps ≡ front ++ made ∷ rest) × (take_failed place made ≡ Some call)
    × AllByRecursion (λ (m : CallStep CopyView). take_failed place m ≡ None) rest

-- the copy began, and each destination that is left has its cause
pub record HaveCauses (c : CopyView) (steps : List (CallStep CopyView)) (x : CopyingView) : Type 0 where
  pub begin : CallStep CopyView
  pub made : Contains steps begin
  pub begun : HasBegun c x begin
  pub causes : (p : ℕ) → p < length x.destinations → (call : FailedCall) → (destination_at x.destinations p).left ≡ Some call
      → IsCause p (destination_at x.destinations p).component (destination_at x.destinations p).extent steps call

-- of a destination that is kept no fence of a source failed
abbrev pub NoneFenced : List (CallStep CopyView) → CopyingView → Type 0
NoneFenced steps x =
    (p : ℕ) → p < length x.destinations → is_kept (destination_at x.destinations p) ≡ true → AllByRecursion (λ (m : CallStep CopyView). fence_failed (destination_at x.destinations p).extent m ≡ None) steps

-- while fences are made
pub record IsCauseFencing (c : CopyView) (steps : List (CallStep CopyView)) (x : CopyingView) : Type 0 where
  pub have : HaveCauses c steps x
  pub fenced : NoneFenced steps x
  pub none : NoneTaken steps 0

-- before the destination at this place is copied
pub record IsCauseReady (c : CopyView) (steps : List (CallStep CopyView)) (x : CopyingView) (place : ℕ) : Type 0 where
  pub have : HaveCauses c steps x
  pub none : NoneTaken steps place

-- while it is copied
pub record IsCauseCopying (c : CopyView) (steps : List (CallStep CopyView)) (x : CopyingView) (place : ℕ) (failed : List ℕ) (last : Option FailedCall) (number : ℕ) : Type 0 where
  pub have : HaveCauses c steps x
  pub none : NoneTaken steps (place + 1)
  pub there : place < length x.destinations
  pub kept : is_kept (destination_at x.destinations place) ≡ true
  pub last_is : LastOf steps place last
  pub nobody : last ≡ None → failed ≡ []
  pub low : chunk_of (destination_at x.destinations place).extent.start ≤ number

abbrev pub CauseStage : CopyView → List (CallStep CopyView) → CopyStage → Type 0
CauseStage c steps (stage.Fence x next) = IsCauseFencing c steps x
CauseStage c steps (stage.Reset x next) = IsCauseReady c steps x 0
CauseStage c steps (stage.Settle x) = IsCauseReady c steps x 0
CauseStage c steps (stage.Take h) = IsCauseCopying c steps h.copying h.place h.failed h.last h.number
CauseStage c steps (stage.Put h bytes) = IsCauseCopying c steps h.copying h.place h.failed h.last h.number
CauseStage c steps (stage.Done key cleared left) = (l : Left) → Contains left l → IsLeftRightly c key l steps

abbrev pub CauseAt : CopyView → List (CallStep CopyView) → CopyAt → Type 0
CauseAt c steps at.Begin = steps ≡ []
CauseAt c steps (at.Copy next) = CauseStage c steps next
CauseAt c steps (at.Merge next) = Unit {0}

abbrev pub Causes : CopyView → List (CallStep CopyView) → Option CopyView → Type 0
Causes c = Stands c (CauseAt c)
