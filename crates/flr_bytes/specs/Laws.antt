-- What is claimed of the start, and of each step.
use Rattle.std.specs.Prelude.{◌≡◌, ◌⊎◌, ℕ, false, length, Contains, Some}
use Rattle.composite_layout.specs.declared.component.Component.{Component}
use Rattle.meta_server.specs.Files.{File, file_of}
use Rattle.script_values.specs.declared.command.Command.{Command}
use Rattle.script_values.specs.Scripts.{ScriptView}
use Rattle.call_steps.specs.Steps.{Outcome, Fixed, Answered}
use Rattle.flr_steps.specs.declared.client.Running.{Running}
use Rattle.flr_steps.specs.Clients.{call_now}
use Rattle.flr_steps.specs.Runs.{IsBeside, doing_after}
use Rattle.flr_steps.specs.States.{IsRun, State, start}
use Rattle.flr_steps.specs.Steps.{StepIs}
use Rattle.flr_steps.specs.Traces.{Trace, doing_of, new_trace, trace_after, traced}
use Rattle.plain_files.specs.Effects.{effect}
use Rattle.plain_files.specs.Files.{Sent}
use Rattle.flr_claims.specs.Honesty.{IsAttempting}
use Rattle.flr_claims.specs.Runs.{store_of}
use Rattle.flr_claims.specs.Sending.{Attempt, HasLanded, Part, sent_by}
use Rattle.flr_numbers.specs.Laws.{LeaveRoom}
use Rattle.flr_numbers.specs.Sentences.{Holds}
use Rattle.flr_work.specs.Paying.{AreListed}
use Rattle.flr_sole.specs.Runs.{Sole}
use Rattle.flr_bytes.specs.Files.{AreSized, BytesStay, HoldBytes, NewFilesHave, OpenClose}
use Rattle.flr_bytes.specs.Origins.{Comes}
use Rattle.flr_bytes.specs.Runs.{Honest, IsStep}
use Rattle.flr_bytes.specs.Sent.{AreSent}
use Rattle.flr_bytes.specs.Sentences.{LandedStay}
use Rattle.flr_bytes.specs.Writing.{HoldsStill, IsThisPart, Writes}

-- before any step there are no files, and nobody knows of bytes
abbrev pub StartIsHonest : Type 0
StartIsHonest = (script : ScriptView) → Honest (start script) (new_trace (length script.clients))

-- ---- what each step does, whatever bytes there are

-- the call that the step is of changes the bytes of one object at most, and only so
abbrev pub StepsWrite : Type 0
StepsWrite = (s t : State) (old new : Trace) (c : ℕ) (is : IsStep s t old new c) → new ≡ traced s t old c → Writes s.shared t.shared (call_now c is.step.client.call is.step.asked)

-- a part that has landed for that call had landed before, or was sent at this step
abbrev pub StepsLand : Type 0
StepsLand =
    (s t : State) (old new : Trace) (c : ℕ) (is : IsStep s t old new c) → new ≡ traced s t old c → (a : Attempt) (place : ℕ) (p : Part) → IsAttempting t c a → HasLanded t.script.fails a (doing_of new c) place p →
    (IsAttempting s c a × HasLanded s.script.fails a (doing_of old c) place p) ⊎ IsThisPart s.shared t.shared (call_now c is.step.client.call is.step.asked) p

-- this part has landed for the client's attempt, which went on at the step
abbrev pub LandsHere : State → State → Trace → ℕ → Part → Type 0
LandsHere s t new c p = (a : Attempt) × (place : ℕ) × IsAttempting s c a × IsAttempting t c a × HasLanded t.script.fails a (doing_of new c) place p

-- and one that was sent here has landed, or the step left all objects as they were
abbrev pub StepsCount : Type 0
StepsCount =
    (s t : State) (old new : Trace) (c : ℕ) (is : IsStep s t old new c) → new ≡ traced s t old c → (p : Part) → IsThisPart s.shared t.shared (call_now c is.step.client.call is.step.asked) p → HoldsStill s.shared t.shared ⊎ LandsHere s t new c p

-- the plain files after a step are those before it, changed by the answer that is fixed at it
abbrev pub StoreBy : State → State → Trace → Trace → Command → Sent → Outcome Running → Type 0
StoreBy s t old new asked sent (Fixed next reply takes after) = store_of t new ≡ effect asked sent reply (store_of s old)
StoreBy s t old new asked sent (Answered reply takes after) = store_of t new ≡ effect asked sent reply (store_of s old)
StoreBy s t old new asked sent other = store_of t new ≡ store_of s old

abbrev pub StepsKeepStore : Type 0
StepsKeepStore =
    (s t : State) (old new : Trace) (c : ℕ) (is : IsStep s t old new c) → new ≡ traced s t old c →
    StoreBy s t old new is.step.asked (sent_by s.script.fails (call_now c is.step.client.call is.step.asked) (doing_after s t old c is.step.client is.step.asked)) is.step.came

-- names and sizes of files stay those of the plain files
abbrev pub StepsKeepSizes : Type 0
StepsKeepSizes = (s t : State) (old new : Trace) (c : ℕ) → IsStep s t old new c → new ≡ traced s t old c → AreSized s.shared.meta.files (store_of s old) → AreSized t.shared.meta.files (store_of t new)

-- and each byte of a plain file stays but where a call closes it
abbrev pub StepsKeepBytes : Type 0
StepsKeepBytes = (s t : State) (old new : Trace) (c : ℕ) → IsStep s t old new c → new ≡ traced s t old c → AreSized s.shared.meta.files (store_of s old) → BytesStay s t old new c

abbrev pub StepsClose : Type 0
StepsClose = (s t : State) (old new : Trace) (c : ℕ) → IsStep s t old new c → new ≡ traced s t old c → AreSized s.shared.meta.files (store_of s old) → OpenClose s t old new c

-- what files have that come to be
abbrev pub StepsGiveNew : Type 0
StepsGiveNew =
    (s t : State) (old new : Trace) (c : ℕ) (is : IsStep s t old new c) → new ≡ traced s t old c → AreSized s.shared.meta.files (store_of s old) → NewFilesHave s t old new is.step.asked

-- each fresh component that is there afterwards comes from somewhere
abbrev pub StepsBring : Type 0
StepsBring =
    (s t : State) (old new : Trace) (c : ℕ) (is : IsStep s t old new c) (n : ℕ) (f : File) (d : Component) → file_of n t.shared.meta.files ≡ Some f → Contains f.layout.components d → d.flags.stale ≡ false →
    Comes s is.step.asked (call_now c is.step.client.call is.step.asked) n d

-- ---- what each step keeps

-- what has landed
abbrev pub StepsKeepLanded : Type 0
StepsKeepLanded = (s t : State) (old new : Trace) (c : ℕ) → IsStep s t old new c → new ≡ traced s t old c → Honest s old → LandedStay t new

-- what fresh components hold
abbrev pub StepsKeepHeld : Type 0
StepsKeepHeld = (s t : State) (old new : Trace) (c : ℕ) → IsStep s t old new c → new ≡ traced s t old c → Honest s old → HoldBytes t new

-- all of it
abbrev pub StepsKeepHonest : Type 0
StepsKeepHonest = (s t : State) (old new : Trace) (c : ℕ) → IsStep s t old new c → new ≡ traced s t old c → Honest s old → Honest t new

-- ---- what was sent

-- each step keeps what was sent for which part, where each target has the calls that the script lists for it to fail
abbrev pub StepsKeepSent : Type 0
StepsKeepSent =
    (s t : State) (c : ℕ) (tr : Trace) → Holds s → AreListed s.script.fails s.shared.targets → IsBeside s tr → Sole s tr → AreSent s tr → StepIs s c t → AreSent t (traced s t tr c)

-- so it is after a run, where no run that isn't longer wants room
abbrev pub RunsHaveSent : Type 0
RunsHaveSent = (s : State) → IsRun s → LeaveRoom (length s.schedule) → AreSent s (trace_after s.script s.schedule)
