-- What callers of a copy can rely on.
use Rattle.std.specs.Prelude.{◌≡◌, ℕ, List, [], None}
use Rattle.object_target.specs.declared.call.CallAnswer.TheVariants as answer
use Rattle.object_target.specs.Calls.{reset_answer, write_answer}
use Rattle.meta_server.specs.Closing.{size_of}
use Rattle.call_steps.specs.Pieces.{object_of}
use Rattle.call_steps.specs.Servers.{Servers}
use Rattle.call_steps.specs.Steps.{Outcome, Going, Fixed, Ended, Answered, Blocked}
use Rattle.resync_copy.specs.declared.phase.Chunk.{Chunk}
use Rattle.resync_copy.specs.declared.phase.CopyAt.{CopyAt}
use Rattle.resync_copy.specs.declared.phase.CopyAt.TheVariants as at
use Rattle.resync_copy.specs.declared.phase.CopyStage.{CopyStage}
use Rattle.resync_copy.specs.declared.phase.CopyStage.TheVariants as stage
use Rattle.resync_copy.specs.Calls.{CopyView}
use Rattle.resync_copy.specs.Copies.{first_writer, object_at, piece_to, settled_objects, stage_at, target_of}
use Rattle.resync_copy.specs.Views.{CopyingView, resets_of}

-- done is next, and nothing is handed to it to clear
abbrev pub ClearsNothing : CopyStage → Type 0
ClearsNothing (stage.Fence x next) = ⊥
ClearsNothing (stage.Reset x next) = ⊥
ClearsNothing (stage.Settle x) = ⊥
ClearsNothing (stage.Take h) = ⊥
ClearsNothing (stage.Put h bytes) = ⊥
ClearsNothing (stage.Done key cleared left) = cleared ≡ []

abbrev pub EndsWithNothing : CopyAt → Type 0
EndsWithNothing at.Begin = ⊥
EndsWithNothing (at.Copy next) = ClearsNothing next
EndsWithNothing (at.Merge next) = ⊥

-- the step leads to such a done
abbrev pub LeadsToNothing : Outcome CopyView → Type 0
LeadsToNothing (Going next after) = EndsWithNothing next.at
LeadsToNothing (Fixed next reply takes after) = ⊥
LeadsToNothing (Ended after) = ⊥
LeadsToNothing (Answered reply takes after) = ⊥
LeadsToNothing (Blocked holder) = ⊥

-- after a reset that was too old
abbrev pub ResetTooOld : Type 0
ResetTooOld = (c : CopyView) (s : Servers) (x : CopyingView) (next kept : ℕ)
    → reset_answer (target_of s (object_at (resets_of x) next).object) (object_at (resets_of x) next).object.number x.side.layout.generation ≡ answer.Old kept
    → LeadsToNothing (stage_at (stage.Reset x next) c s)

-- after a put that was too old
abbrev pub PutTooOld : Type 0
PutTooOld = (c : CopyView) (s : Servers) (h : Chunk) (bytes : List ℕ) (kept : ℕ)
    → write_answer (target_of s (object_of (piece_to h))) (object_of (piece_to h)).number h.copying.side.layout.generation ≡ answer.Old kept
    → LeadsToNothing (stage_at (stage.Put h bytes) c s)

-- where nobody is in the way of the settle and the file is gone
abbrev pub FileGone : Type 0
FileGone = (c : CopyView) (s : Servers) (x : CopyingView)
    → first_writer s.locks c.client (settled_objects x) ≡ None → size_of x.side.file s.meta ≡ None
    → LeadsToNothing (stage_at (stage.Settle x) c s)
