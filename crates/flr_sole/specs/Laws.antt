-- What is claimed of every run: who may still write, and what copies know.
use Rattle.std.specs.Prelude.{◌≡◌, ℕ, true, List, length, Contains, None, Some, ◌⊎◌}
use Rattle.flr_base.specs.declared.reply.Left.{Left}
use Rattle.composite_layout.specs.declared.component.Component.{Component}
use Rattle.composite_layout.specs.LookUps.{wholly_fresh}
use Rattle.layout_lease.specs.declared.lease.KeyState.TheVariants.{Held}
use Rattle.layout_lease.specs.Leases.{KeyView, state_of}
use Rattle.layout_state.specs.Marking.{is_named}
use Rattle.meta_server.specs.declared.answers.Side.{Side}
use Rattle.meta_server.specs.Files.{File, file_of}
use Rattle.resync_copy.specs.declared.merge_phase.MergeStage.{MergeStage}
use Rattle.resync_copy.specs.declared.merge_phase.MergeStage.TheVariants as merge
use Rattle.resync_copy.specs.declared.phase.CopyAt.TheVariants as at
use Rattle.resync_copy.specs.declared.phase.CopyStage.{CopyStage}
use Rattle.resync_copy.specs.declared.phase.CopyStage.TheVariants as stage
use Rattle.resync_copy.specs.Calls.{CopyView}
use Rattle.resync_copy.specs.Comparing.{ComparingView}
use Rattle.resync_copy.specs.Parts.{overlaps_kept}
use Rattle.resync_copy.specs.Views.{CopyingView}
use Rattle.script_values.specs.Scripts.{ScriptView}
use Rattle.flr_steps.specs.declared.client.Client.{Client}
use Rattle.flr_steps.specs.declared.client.Running.TheVariants as running
use Rattle.flr_steps.specs.Runs.{IsBeside}
use Rattle.flr_steps.specs.States.{IsRun, State, client_at, start}
use Rattle.flr_steps.specs.Steps.{StepIs}
use Rattle.flr_steps.specs.Traces.{Trace, doing_of, new_trace, trace_after, traced}
use Rattle.flr_claims.specs.Honesty.{HasSoleHolder, IsAttempting}
use Rattle.flr_claims.specs.Sending.{Attempt, IsAdmitted, Part, reach_of, reaches}
use Rattle.flr_numbers.specs.Laws.{LeaveRoom}
use Rattle.flr_numbers.specs.Sentences.{HasRoom, Holds}
use Rattle.flr_behind.specs.Sentences.{Known}
use Rattle.flr_locks.specs.Sentences.{Locked}
use Rattle.flr_sole.specs.Copies.{HasLandedOn, fenced_copy, fenced_merge, settled_copy, settled_merge}
use Rattle.flr_sole.specs.Runs.{Sole}
use Rattle.flr_sole.specs.Sentences.{Counts, StandsAlone}

-- before any step nothing was sent
abbrev pub StartIsSole : Type 0
StartIsSole = (script : ScriptView) → Sole (start script) (new_trace (length script.clients))

-- each step for which there is room keeps who may still write, and what copies know
abbrev pub StepsKeepSole : Type 0
StepsKeepSole = (s t : State) (c : ℕ) (trace : Trace) → Holds s → HasRoom s.shared → Known s → Locked s → IsBeside s trace → Sole s trace → StepIs s c t → Sole t (traced s t trace c)

-- so it is after a run, where no run that isn't longer wants room
abbrev pub RunsAreSole : Type 0
RunsAreSole = (s : State) → IsRun s → LeaveRoom (length s.schedule) → Sole s (trace_after s.script s.schedule)

-- after such a run each part that may still land, or has landed before its call's point, lies in the only fresh components
abbrev pub RunsHaveSoleHolder : Type 0
RunsHaveSoleHolder = (s : State) → IsRun s → LeaveRoom (length s.schedule) → HasSoleHolder s (trace_after s.script s.schedule)

-- the mirror of such a part is the only one of the file that is wholly fresh
abbrev pub OnlyOneIsFresh : Type 0
OnlyOneIsFresh =
    (s : State) (c : ℕ) (a : Attempt) (place : ℕ) (p : Part) → IsRun s → LeaveRoom (length s.schedule) → IsAttempting s c a → Counts s (trace_after s.script s.schedule) c a place p →
    (stands : StandsAlone s.shared.meta.files a.opened.file p) × ((mirror : ℕ) → wholly_fresh mirror stands.file.layout.components ≡ true → mirror ≡ stands.alone.component.mirror)

-- ---- what is kept out

-- at this stage of a client's copy
pub record IsCopyAt (s : State) (c : ℕ) (next : CopyStage) : Type 0 where
  pub client : Client
  pub here : client_at s.clients c ≡ Some client
  pub call : CopyView
  pub copies : client.call ≡ running.Copy call
  pub stage : call.at ≡ at.Copy next

-- at this stage of a client's merge
pub record IsMergeAt (s : State) (c : ℕ) (next : MergeStage) : Type 0 where
  pub client : Client
  pub here : client_at s.clients c ≡ Some client
  pub call : CopyView
  pub copies : client.call ≡ running.Copy call
  pub stage : call.at ≡ at.Merge next

-- the part may still land for a call on the file
pub record MayLandOn (s : State) (t : Trace) (file : ℕ) (p : Part) : Type 0 where
  pub client : ℕ
  pub attempt : Attempt
  pub attempting : IsAttempting s client attempt
  pub same : attempt.opened.file ≡ file
  pub place : ℕ
  pub admitted : IsAdmitted s.shared attempt (doing_of t client) place p

-- where the fences of a copy are made and its lease stands, no part that reaches a destination that isn't left may land
abbrev pub FencesShut : Type 0
FencesShut =
    (s : State) (c : ℕ) (next : CopyStage) (x : CopyingView) (p : Part) → IsRun s → LeaveRoom (length s.schedule) → IsCopyAt s c next → fenced_copy next ≡ Some x → state_of s.shared.meta.leases x.side.key ≡ Held →
    overlaps_kept x.destinations (reach_of p) ≡ true → MayLandOn s (trace_after s.script s.schedule) x.side.key.file p → ⊥

-- where it has settled, none that does has landed for a call before its point
abbrev pub SettledStay : Type 0
SettledStay =
    (s : State) (c : ℕ) (next : CopyStage) (x : CopyingView) (p : Part) → IsRun s → LeaveRoom (length s.schedule) → IsCopyAt s c next → settled_copy next ≡ Some x → state_of s.shared.meta.leases x.side.key ≡ Held →
    overlaps_kept x.destinations (reach_of p) ≡ true → HasLandedOn s (trace_after s.script s.schedule) x.side.key.file p → ⊥

-- where it is to clear components, and its lease stands, neither kind of part reaches one of them
abbrev pub ClearedAreFree : Type 0
ClearedAreFree =
    (s : State) (c : ℕ) (key : KeyView) (cleared : List ℕ) (left : List Left) (f : File) (d : Component) (p : Part) → IsRun s → LeaveRoom (length s.schedule) → IsCopyAt s c (stage.Done key cleared left) → state_of s.shared.meta.leases key ≡ Held →
    file_of key.file s.shared.meta.files ≡ Some f → Contains f.layout.components d → is_named cleared d ≡ true → reaches p d ≡ true →
    MayLandOn s (trace_after s.script s.schedule) key.file p ⊎ HasLandedOn s (trace_after s.script s.schedule) key.file p → ⊥

-- the side is one of the two
abbrev pub IsSideIn : ComparingView → Side → Type 0
IsSideIn x side = (side ≡ x.ours) ⊎ (side ≡ x.theirs)

-- where the fences of a merge are made, no part may land on a file whose lease stands
abbrev pub MergesShut : Type 0
MergesShut =
    (s : State) (c : ℕ) (next : MergeStage) (x : ComparingView) (side : Side) (p : Part) → IsRun s → LeaveRoom (length s.schedule) → IsMergeAt s c next → fenced_merge next ≡ Some x → IsSideIn x side → state_of s.shared.meta.leases side.key ≡ Held →
    MayLandOn s (trace_after s.script s.schedule) side.key.file p → ⊥

-- and where it has settled none has landed there for a call before its point
abbrev pub MergesStay : Type 0
MergesStay =
    (s : State) (c : ℕ) (next : MergeStage) (x : ComparingView) (side : Side) (p : Part) → IsRun s → LeaveRoom (length s.schedule) → IsMergeAt s c next → settled_merge next ≡ Some x → IsSideIn x side → state_of s.shared.meta.leases side.key ≡ Held →
    HasLandedOn s (trace_after s.script s.schedule) side.key.file p → ⊥

-- neither kind of part is on a file that is to be taken in or to take it in
abbrev pub TakenInAreFree : Type 0
TakenInAreFree =
    (s : State) (c : ℕ) (ours theirs key : KeyView) (p : Part) → IsRun s → LeaveRoom (length s.schedule) → IsMergeAt s c (merge.Done ours theirs None) → (key ≡ ours) ⊎ (key ≡ theirs) → state_of s.shared.meta.leases key ≡ Held →
    MayLandOn s (trace_after s.script s.schedule) key.file p ⊎ HasLandedOn s (trace_after s.script s.schedule) key.file p → ⊥
