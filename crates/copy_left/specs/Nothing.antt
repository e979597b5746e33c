-- What a copy hands over to be cleared after a call that was too old, or where its file was gone: nothing.
use Rattle.std.specs.Prelude.{◌≡◌, ℕ, List, [], ◌∷◌, ◌++◌, Contains, None}
use Rattle.flr_base.specs.declared.reply.Left.{Left}
use Rattle.layout_lease.specs.Leases.{KeyView}
use Rattle.object_target.specs.declared.call.CallAnswer.TheVariants as answer
use Rattle.object_target.specs.Calls.{reset_answer, write_answer}
use Rattle.meta_server.specs.declared.answers.CopyWhat.{CopyWhat}
use Rattle.meta_server.specs.Closing.{size_of}
use Rattle.call_steps.specs.Pieces.{object_of}
use Rattle.call_steps.specs.Runs.{CallStep, IsRun}
use Rattle.call_steps.specs.Servers.{Servers}
use Rattle.resync_copy.specs.declared.phase.CopyAt.{CopyAt}
use Rattle.resync_copy.specs.declared.phase.CopyAt.TheVariants as at
use Rattle.resync_copy.specs.declared.phase.CopyStage.{CopyStage}
use Rattle.resync_copy.specs.declared.phase.CopyStage.TheVariants as stage
use Rattle.resync_copy.specs.Calls.{CopyView}
use Rattle.resync_copy.specs.Copies.{new_copy, object_at, piece_to, target_of}
use Rattle.resync_copy.specs.Steps.{copy_step}
use Rattle.resync_copy.specs.Views.{resets_of}

-- a reset or a put that is too old by then, or a settle of a file that is gone
abbrev pub HasLostStage : CopyStage → Servers → Type 0
HasLostStage (stage.Fence x next) s = ⊥
HasLostStage (stage.Reset x next) s = (kept : ℕ) × (reset_answer (target_of s (object_at (resets_of x) next).object) (object_at (resets_of x) next).object.number x.side.layout.generation ≡ answer.Old kept)
HasLostStage (stage.Settle x) s = size_of x.side.file s.meta ≡ None
HasLostStage (stage.Take h) s = ⊥
HasLostStage (stage.Put h bytes) s = (kept : ℕ) × (write_answer (target_of s (object_of (piece_to h))) (object_of (piece_to h)).number h.copying.side.layout.generation ≡ answer.Old kept)
HasLostStage (stage.Done key cleared left) s = ⊥

abbrev pub HasLostAt : CopyAt → Servers → Type 0
HasLostAt at.Begin s = ⊥
HasLostAt (at.Copy next) s = HasLostStage next s
HasLostAt (at.Merge next) s = ⊥

-- the step met a call that was too old, or found its file gone at the settle
abbrev pub HasLost : CallStep CopyView → Type 0
HasLost made = HasLostAt made.call.at made.before

-- a copy one of whose steps did so hands nothing over to be cleared
abbrev pub LostClearsNothing : Type 0
LostClearsNothing =
    (client : ℕ) (name : List ℕ) (what : CopyWhat) (steps : List (CallStep CopyView)) (made lost : CallStep CopyView) (key : KeyView) (cleared : List ℕ) (left : List Left) →
    IsRun copy_step (new_copy client name what) (steps ++ made ∷ []) → Contains steps lost → HasLost lost →
    made.call.at ≡ at.Copy (stage.Done key cleared left) → cleared ≡ []
