-- Each step is a step of one client's call.
use Rattle.std.proofs.Common.{◌≡◌, ℕ, refl}
use Rattle.std.specs.Prelude.{Option, Some, None}
use Rattle.script_values.specs.declared.command.Command.{Command}
use Rattle.script_values.specs.Scripts.{command_after}
use Rattle.call_steps.specs.Steps.{Outcome, Going, Fixed, Ended, Answered, Blocked}
use Rattle.flr_steps.specs.declared.client.Client.{Client}
use Rattle.flr_steps.specs.declared.client.Running.{Running}
use Rattle.flr_steps.specs.Clients.{call_now, client_by, client_next, first_now}
use Rattle.flr_steps.specs.Commands.{step_of}
use Rattle.flr_steps.specs.States.{State, Stepped, client_at, next, next_by, next_from, place_in}
use Rattle.flr_steps.specs.Steps.{LeavesState, StepIs}

-- what a step that came to this leaves
left_by : (s t : State) (c : ℕ) (client : Client) (first : ℕ) (came : Outcome Running) → next_by s c (client_by c (place_in s) client first came) ≡ Stepped t → LeavesState s c client first came t
left_by s t c client first (Going next after) e = cc
left_by s t c client first (Fixed next reply takes after) e = cc
left_by s t c client first (Ended after) e = cc
left_by s t c client first (Answered reply takes after) e = cc
left_by s t c client first (Blocked holder) e = absurd cc

by_command : (s t : State) (c : ℕ) (client : Client) → client_at s.clients c ≡ Some client → (asked : Option Command) → command_after s.script c client.done ≡ asked
    → next_by s c (client_next c (place_in s) client s.shared asked) ≡ Stepped t → StepIs s c t
by_command s t c client here None commanded e = absurd cc
by_command s t c client here (Some asked) commanded e =
    let came : Outcome Running = step_of (call_now c client.call asked) c asked (place_in s) s.shared in
    record { client = client; here = here; asked = asked; commanded = commanded; came = came; made = refl; left = left_by s t c client (first_now client.call (place_in s) client.first) came e }

by_client : (s t : State) (c : ℕ) (client : Option Client) → client_at s.clients c ≡ client → next_from s c client ≡ Stepped t → StepIs s c t
by_client s t c None here e = absurd cc
by_client s t c (Some client) here e = by_command s t c client here (command_after s.script c client.done) refl e

-- the step, taken apart
pub step_is : (s t : State) (c : ℕ) → next s c ≡ Stepped t → StepIs s c t
step_is s t c e = by_client s t c (client_at s.clients c) refl e
