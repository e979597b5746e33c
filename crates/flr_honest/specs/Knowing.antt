-- What is claimed of reads and verifies.
use Rattle.std.specs.Prelude.{◌≡◌, ℕ, length, Some}
use Rattle.client_read.specs.Views.{ReadView}
use Rattle.mirror_verify.specs.Views.{VerifyView}
use Rattle.script_values.specs.Scripts.{ScriptView}
use Rattle.flr_steps.specs.declared.client.Client.{Client}
use Rattle.flr_steps.specs.declared.client.Running.TheVariants as running
use Rattle.flr_steps.specs.States.{IsRun, State, client_at, start}
use Rattle.flr_steps.specs.Steps.{StepIs}
use Rattle.flr_steps.specs.Traces.{Trace, traced}
use Rattle.flr_numbers.specs.Laws.{LeaveRoom}
use Rattle.flr_numbers.specs.Sentences.{Holds}
use Rattle.flr_bytes.specs.Calls.{ReadSays, VerifySays}
use Rattle.flr_bytes.specs.Laws.{StepsKeepBytes}
use Rattle.flr_bytes.specs.Runs.{Honest, IsStep}
use Rattle.flr_bytes.specs.Sentences.{byte_in}
use Rattle.flr_bytes.specs.Pieces.{HavePieces}

-- ---- what reads and verifies have in hand, whatever bytes there are

-- before any step no call is under way
abbrev pub StartHasPieces : Type 0
StartHasPieces = (script : ScriptView) → HavePieces (start script)

-- each step keeps it
abbrev pub StepsKeepPieces : Type 0
StepsKeepPieces = (s t : State) (c : ℕ) → Holds s → HavePieces s → StepIs s c t → HavePieces t

-- so it is after a run, where no run that isn't longer wants room
abbrev pub RunsHavePieces : Type 0
RunsHavePieces = (s : State) → IsRun s → LeaveRoom (length s.schedule) → HavePieces s

-- ---- what they know of bytes

-- after a step of its client
abbrev pub OwnReadsSay : Type 0
OwnReadsSay =
    (s t : State) (old new : Trace) (c : ℕ) → IsStep s t old new c → new ≡ traced s t old c → Honest s old → (client : Client) (call : ReadView) → client_at t.clients c ≡ Some client → client.call ≡ running.Read call →
    ReadSays t.shared.meta (byte_in t new) call.range.start call.at

abbrev pub OwnVerifiesSay : Type 0
OwnVerifiesSay =
    (s t : State) (old new : Trace) (c : ℕ) → IsStep s t old new c → new ≡ traced s t old c → Honest s old → (client : Client) (call : VerifyView) → client_at t.clients c ≡ Some client → client.call ≡ running.Verify call →
    VerifySays t.shared.meta (byte_in t new) call.at

-- after a step of another client
abbrev pub OtherReadsSay : Type 0
OtherReadsSay =
    (s t : State) (old new : Trace) (c d : ℕ) → IsStep s t old new c → new ≡ traced s t old c → Honest s old → (d ≡ c → ⊥) → (client : Client) (call : ReadView) → client_at s.clients d ≡ Some client → client.call ≡ running.Read call →
    ReadSays t.shared.meta (byte_in t new) call.range.start call.at

abbrev pub OtherVerifiesSay : Type 0
OtherVerifiesSay =
    (s t : State) (old new : Trace) (c d : ℕ) → IsStep s t old new c → new ≡ traced s t old c → Honest s old → (d ≡ c → ⊥) → (client : Client) (call : VerifyView) → client_at s.clients d ≡ Some client → client.call ≡ running.Verify call →
    VerifySays t.shared.meta (byte_in t new) call.at

-- a read knows what it got, where each step keeps the bytes of the plain files but where it closes them
abbrev pub ReadsFollow : Type 0
ReadsFollow = StepsKeepBytes → OwnReadsSay × OtherReadsSay

-- and so a verify finds copies alike
abbrev pub VerifiesFollow : Type 0
VerifiesFollow = StepsKeepBytes → OwnVerifiesSay × OtherVerifiesSay
