-- What is claimed of every run: what copies can't change any more.
use Rattle.std.specs.Prelude.{Contains, ◌≡◌, ℕ, List, Option, None, Some, true, false, length}
use Rattle.flr_base.specs.declared.reply.ObjectId.{ObjectId}
use Rattle.composite_layout.specs.declared.component.Component.{Component}
use Rattle.layout_lease.specs.declared.lease.KeyState.TheVariants.{Held}
use Rattle.layout_lease.specs.Leases.{state_of}
use Rattle.meta_server.specs.Files.{File, file_of}
use Rattle.object_target.specs.Calls.{is_old}
use Rattle.call_steps.specs.Pieces.{object_of}
use Rattle.call_steps.specs.Servers.{target_at}
use Rattle.resync_copy.specs.declared.phase.CopyStage.{CopyStage}
use Rattle.resync_copy.specs.declared.phase.CopyStage.TheVariants as stage
use Rattle.resync_copy.specs.declared.phase.Chunk.{Chunk}
use Rattle.resync_copy.specs.Copies.{object_at, piece_to, target_of}
use Rattle.resync_copy.specs.Fitting.{IsSoundStage}
use Rattle.resync_copy.specs.Views.{CopyingView, resets_of}
use Rattle.script_values.specs.Scripts.{ScriptView}
use Rattle.flr_steps.specs.States.{IsRun, State, start}
use Rattle.flr_steps.specs.Steps.{StepIs}
use Rattle.flr_steps.specs.Traces.{Trace}
use Rattle.flr_numbers.specs.Laws.{LeaveRoom}
use Rattle.flr_numbers.specs.Sentences.{HasRoom, Holds}
use Rattle.flr_behind.specs.Sentences.{Known}
use Rattle.flr_locks.specs.Sentences.{Locked}
use Rattle.flr_sole.specs.Laws.{IsCopyAt}
use Rattle.flr_sole.specs.Runs.{Sole}
use Rattle.flr_shut.specs.Sentences.{IsReset, Place, Shut}

-- before any step no copy is begun
abbrev pub StartIsShut : Type 0
StartIsShut = (script : ScriptView) → Shut (start script)

-- each step for which there is room keeps copies off
abbrev pub StepsKeepShut : Type 0
StepsKeepShut = (s t : State) (c : ℕ) (trace : Trace) → Holds s → HasRoom s.shared → Known s → Locked s → Sole s trace → Shut s → StepIs s c t → Shut t

-- so it is after a run, where no run that isn't longer wants room
abbrev pub RunsAreShut : Type 0
RunsAreShut = (s : State) → IsRun s → LeaveRoom (length s.schedule) → Shut s

-- the copy that goes on at a stage
abbrev pub copying_of : CopyStage → Option CopyingView
copying_of (stage.Fence x next) = Some x
copying_of (stage.Reset x next) = Some x
copying_of (stage.Settle x) = Some x
copying_of (stage.Take h) = Some h.copying
copying_of (stage.Put h bytes) = Some h.copying
copying_of (stage.Done key cleared left) = None

-- after such a run, where an object that a copy resets stands in a fresh component, a put or reset there with the generation of begin is too old
abbrev pub CopiesAreOld : Type 0
CopiesAreOld =
    (s : State) (c : ℕ) (next : CopyStage) (x : CopyingView) (o : ObjectId) → IsRun s → LeaveRoom (length s.schedule) → IsCopyAt s c next → copying_of next ≡ Some x → IsReset x o → (at : Place s.shared.meta o) → at.component.flags.stale ≡ false →
    is_old (target_at s.shared.targets o.target) o.number x.side.layout.generation ≡ true

-- so it is of the object that a copy resets next
abbrev pub ResetsAreOld : Type 0
ResetsAreOld =
    (s : State) (c : ℕ) (x : CopyingView) (next : ℕ) → IsRun s → LeaveRoom (length s.schedule) → IsCopyAt s c (stage.Reset x next) → (at : Place s.shared.meta (object_at (resets_of x) next).object) → at.component.flags.stale ≡ false →
    is_old (target_of s.shared (object_at (resets_of x) next).object) (object_at (resets_of x) next).object.number x.side.layout.generation ≡ true

-- and of the one to which it puts next, where its parts are as those of a call are
abbrev pub PutsAreOld : Type 0
PutsAreOld =
    (s : State) (c : ℕ) (h : Chunk) (bytes : List ℕ) → IsRun s → LeaveRoom (length s.schedule) → IsCopyAt s c (stage.Put h bytes) → IsSoundStage (stage.Put h bytes) → (at : Place s.shared.meta (object_of (piece_to h))) → at.component.flags.stale ≡ false →
    is_old (target_of s.shared (object_of (piece_to h))) (object_of (piece_to h)).number h.copying.side.layout.generation ≡ true

-- while its lease stands, each destination of a copy is stale in the file
abbrev pub DestinationsAreStale : Type 0
DestinationsAreStale =
    (s : State) (c : ℕ) (next : CopyStage) (x : CopyingView) (f : File) (d : Component) → IsRun s → LeaveRoom (length s.schedule) → IsCopyAt s c next → copying_of next ≡ Some x → state_of s.shared.meta.leases x.side.key ≡ Held → file_of x.side.key.file s.shared.meta.files ≡ Some f → Contains f.layout.components d → Contains x.ids d.id →
    d.flags.stale ≡ true
