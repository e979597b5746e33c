-- The calls of a run on plain files, and the store that they leave.
use Rattle.std.specs.Prelude.{◌≡◌, ℕ, ◌-◌, List, [], ◌∷◌, ◌++◌, Option, None, Some}
use Rattle.flr_base.specs.declared.reply.Entry.{Entry}
use Rattle.script_values.specs.declared.command.Command.{Command}
use Rattle.script_values.specs.Scripts.{ScriptView}
use Rattle.flr_steps.specs.Reports.{command_of}
use Rattle.flr_steps.specs.States.{State, state_at}
use Rattle.flr_steps.specs.Steps.{StepIs}
use Rattle.flr_steps.specs.Traces.{Past, Trace}
use Rattle.flr_claims.specs.Calls.{Call, IsStepAt}
use Rattle.plain_files.specs.Files.{Plain}
use Rattle.plain_files.specs.Histories.{Answered, store_after}
use Rattle.flr_claims.specs.Sending.{sent_of}

-- the entry with its command, if it has one, and what was sent for it
abbrev pub with_command : ScriptView → Entry → Past → Option Command → List Answered
with_command script e p None = []
with_command script e p (Some command) = record { entry = e; command = command; sent = sent_of script.fails p } ∷ []

-- each entry with its command and what was sent for it
abbrev pub answered_calls : ScriptView → List Entry → List Past → List Answered
answered_calls script (e ∷ es) (p ∷ ps) = with_command script e p (command_of script e) ++ answered_calls script es ps
answered_calls script es ps = []

-- the answered calls of a state, in the order of their points
abbrev pub calls_of : State → Trace → List Answered
calls_of s t = answered_calls s.script s.entries t.answered

-- the plain files that they leave
abbrev pub store_of : State → Trace → List Plain
store_of s t = store_after [] (calls_of s t)

-- ---- what is said of each call

-- the call of an entry, as it was before its point
abbrev pub call_before : State → Entry → Command → Past → Call
call_before before e asked p = record { before = before; client = e.client; asked = asked; first = e.first; at = e.at; takes = e.takes; did = p.doing }

-- the entry answers a command of the script, there is a state before its point, and this is so of the call there and of the entry
pub record IsCallWith (P : Call → Entry → Type 0) (script : ScriptView) (schedule : List ℕ) (e : Entry) (p : Past) : Type 0 where
  pub asked : Command
  pub commanded : command_of script e ≡ Some asked
  pub before : State
  pub before_is : state_at script schedule (e.at - 1) ≡ Some before
  pub so : P (call_before before e asked p) e

-- one entry after the other is such a call, and for each there is told what it did
abbrev pub EachIs : (Call → Entry → Type 0) → ScriptView → List ℕ → List Entry → List Past → Type 0
EachIs P script schedule [] [] = Unit {0}
EachIs P script schedule (e ∷ es) (p ∷ ps) = IsCallWith P script schedule e p × EachIs P script schedule es ps
EachIs P script schedule es ps = ⊥

-- each entry of a state is such a call
abbrev pub EachCallIs : (Call → Entry → Type 0) → State → Trace → Type 0
EachCallIs P s t = EachIs P s.script s.schedule s.entries t.answered

-- ---- what is said of each step

-- each step of the run to a state is so
abbrev pub EachStepIs : ((old : State) (c : ℕ) (new : State) → StepIs old c new → Type 0) → State → Type 0
EachStepIs P s = (place : ℕ) (at : IsStepAt s place) → P at.old at.client at.new at.step
