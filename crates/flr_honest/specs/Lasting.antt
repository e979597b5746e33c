-- What is claimed of copies and merges: what they have in hand, and what they know after the steps of others.
use Rattle.std.specs.Prelude.{◌≡◌, ℕ, Some, length}
use Rattle.resync_copy.specs.declared.phase.CopyAt.TheVariants as at
use Rattle.resync_copy.specs.declared.phase.CopyStage.{CopyStage}
use Rattle.resync_copy.specs.Calls.{CopyView}
use Rattle.flr_steps.specs.declared.client.Client.{Client}
use Rattle.flr_steps.specs.declared.client.Running.TheVariants as running
use Rattle.script_values.specs.Scripts.{ScriptView}
use Rattle.flr_numbers.specs.Laws.{LeaveRoom}
use Rattle.flr_numbers.specs.Sentences.{Holds}
use Rattle.flr_steps.specs.Steps.{StepIs}
use Rattle.flr_bytes.specs.Fitting.{CopiesFit}
use Rattle.flr_steps.specs.States.{IsRun, State, client_at, start}
use Rattle.flr_steps.specs.Traces.{Trace, traced}
use Rattle.resync_copy.specs.declared.merge_phase.MergeStage.{MergeStage}
use Rattle.flr_bytes.specs.Calls.{MergeSays, StageSays}
use Rattle.flr_bytes.specs.Laws.{StepsKeepBytes, StepsWrite}
use Rattle.flr_bytes.specs.Runs.{Honest, IsStep}
use Rattle.flr_bytes.specs.Sentences.{byte_in}

-- before any step no copy is begun
abbrev pub StartFits : Type 0
StartFits = (script : ScriptView) → CopiesFit (start script)

-- each step leaves each copy what it is to have
abbrev pub StepsFit : Type 0
StepsFit = (s t : State) (c : ℕ) → Holds s → CopiesFit s → StepIs s c t → CopiesFit t

-- so it is after a run, where no run that isn't longer wants room
abbrev pub RunsFit : Type 0
RunsFit = (s : State) → IsRun s → LeaveRoom (length s.schedule) → CopiesFit s

-- what the copies of other clients know
abbrev pub OthersCopySays : Type 0
OthersCopySays =
    (s t : State) (old new : Trace) (c d : ℕ) → IsStep s t old new c → new ≡ traced s t old c → Honest s old → (d ≡ c → ⊥) → (client : Client) (k : CopyView) (next : CopyStage) → client_at s.clients d ≡ Some client → client.call ≡ running.Copy k → k.at ≡ at.Copy next →
    StageSays t.shared (byte_in t new) next

-- they do where it is known what a step writes, and that plain files keep their bytes but where a call closes them
abbrev pub OthersCopyFollows : Type 0
OthersCopyFollows = StepsWrite → StepsKeepBytes → OthersCopySays

-- what the merges of other clients know
abbrev pub OthersMergeSays : Type 0
OthersMergeSays =
    (s t : State) (old new : Trace) (c d : ℕ) → IsStep s t old new c → new ≡ traced s t old c → Honest s old → (d ≡ c → ⊥) → (client : Client) (k : CopyView) (next : MergeStage) → client_at s.clients d ≡ Some client → client.call ≡ running.Copy k → k.at ≡ at.Merge next →
    MergeSays t.shared.meta (byte_in t new) next

abbrev pub OthersMergeFollows : Type 0
OthersMergeFollows = StepsWrite → StepsKeepBytes → OthersMergeSays
