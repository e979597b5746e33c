-- A step from one state to the next, taken apart.
use Rattle.std.specs.Prelude.{◌≡◌, ℕ, ◌≤◌, List, [], ◌∷◌, ◌++◌, length, None, Some}
use Rattle.script_values.specs.declared.command.Command.{Command}
use Rattle.script_values.specs.Scripts.{ScriptView, command_after}
use Rattle.call_steps.specs.Steps.{Outcome, Going, Fixed, Ended, Answered, Blocked}
use Rattle.flr_steps.specs.declared.client.Client.{Client}
use Rattle.flr_steps.specs.declared.client.Note.TheVariants.{Nothing, Adds, Closes}
use Rattle.flr_steps.specs.declared.client.Running.{Running}
use Rattle.flr_steps.specs.Clients.{call_now, entry, first_now, going, over}
use Rattle.flr_steps.specs.Commands.{step_of}
use Rattle.flr_steps.specs.States.{State, Stepped, after, client_at, next, place_in, state_at, state_of, stepped}

-- what a step of a client's call leaves, by what it came to: its call goes on, with its answer open or fixed here; it has ended; or its answer is fixed here and it has ended. A blocked try is no step
abbrev pub LeavesState : State → ℕ → Client → ℕ → Outcome Running → State → Type 0
LeavesState s c client first (Going next after) t = t ≡ stepped s c (going client first next) after Nothing
LeavesState s c client first (Fixed next reply takes after) t = t ≡ stepped s c (going client first next) after (Adds (entry c client first (place_in s) 0 reply takes))
LeavesState s c client first (Ended after) t = t ≡ stepped s c (over client first) after Closes
LeavesState s c client first (Answered reply takes after) t = t ≡ stepped s c (over client first) after (Adds (entry c client first (place_in s) (place_in s) reply takes))
LeavesState s c client first (Blocked holder) t = ⊥

-- a step of a client from one state to the next: whose it is, which command it is of, what it came to, and what that left
pub record StepIs (s : State) (c : ℕ) (t : State) : Type 0 where
  pub client : Client
  pub here : client_at s.clients c ≡ Some client
  pub asked : Command
  pub commanded : command_after s.script c client.done ≡ Some asked
  pub came : Outcome Running
  pub made : step_of (call_now c client.call asked) c asked (place_in s) s.shared ≡ came
  pub left : LeavesState s c client (first_now client.call (place_in s) client.first) came t

-- each step is one of these
abbrev pub EachStepIs : Type 0
EachStepIs = (s t : State) (c : ℕ) → next s c ≡ Stepped t → StepIs s c t

-- a run goes on with each step that is made
abbrev pub GoesOn : Type 0
GoesOn = (s t u : State) (schedule : List ℕ) (c : ℕ) → after s schedule ≡ Some t → next t c ≡ Stepped u → after s (schedule ++ c ∷ []) ≡ Some u

-- a schedule stops at the first step that isn't made
abbrev pub StopsThere : Type 0
StopsThere = (s t : State) (schedule rest : List ℕ) (c : ℕ) → after s schedule ≡ Some t → state_of (next t c) ≡ None → after s (schedule ++ c ∷ rest) ≡ None

-- the state after a front of a schedule stays what it was
abbrev pub StaysSo : Type 0
StaysSo = (script : ScriptView) (front rest : List ℕ) (place : ℕ) (s : State) → state_at script front place ≡ Some s → place ≤ length front → state_at script (front ++ rest) place ≡ Some s
