-- What is claimed of copies and merges.
use Rattle.std.specs.Prelude.{◌≡◌, ℕ, Some}
use Rattle.resync_copy.specs.Calls.{CopyView}
use Rattle.flr_steps.specs.declared.client.Client.{Client}
use Rattle.flr_steps.specs.declared.client.Running.TheVariants as running
use Rattle.flr_steps.specs.States.{State, client_at}
use Rattle.flr_steps.specs.Traces.{Trace, traced}
use Rattle.flr_bytes.specs.Calls.{CopySays}
use Rattle.flr_bytes.specs.Laws.{StepsKeepBytes}
use Rattle.flr_bytes.specs.Runs.{Honest, IsStep}
use Rattle.flr_bytes.specs.Sentences.{byte_in}

-- what the call knows that the step is of, if it is a copy
abbrev pub OwnCopySays : Type 0
OwnCopySays =
    (s t : State) (old new : Trace) (c : ℕ) → IsStep s t old new c → new ≡ traced s t old c → Honest s old → (client : Client) (call : CopyView) → client_at t.clients c ≡ Some client → client.call ≡ running.Copy call →
    CopySays t.shared (byte_in t new) call.at

-- where plain bytes are known to stay
abbrev pub OwnCopyFollows : Type 0
OwnCopyFollows = StepsKeepBytes → OwnCopySays
