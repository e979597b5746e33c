-- One step of one client.
use Rattle.std.specs.Prelude.{ℕ, ◌+◌, List, Option, None, Some}
use Rattle.flr_base.specs.declared.reply.Entry.{Entry}
use Rattle.flr_base.specs.declared.reply.Reply.{Reply}
use Rattle.flr_base.specs.declared.reply.Take.{Take}
use Rattle.script_values.specs.declared.command.Command.{Command}
use Rattle.call_steps.specs.Servers.{Servers}
use Rattle.call_steps.specs.Steps.{Outcome, Going, Fixed, Ended, Answered, Blocked}
use Rattle.flr_steps.specs.declared.client.Client.{Client}
use Rattle.flr_steps.specs.declared.client.Note.{Note}
use Rattle.flr_steps.specs.declared.client.Note.TheVariants.{Nothing, Adds, Closes}
use Rattle.flr_steps.specs.declared.client.Running.{Running}
use Rattle.flr_steps.specs.declared.client.Running.TheVariants as running
use Rattle.flr_steps.specs.Commands.{begun, step_of}

-- what the next step of a client is: it moves, waits for a holder, or has no command left
pub data ClientNext : Type 0 where
  Moves : (client : Client) → (after : Servers) → (note : Note) → ClientNext
  Waits : (holder : ℕ) → ClientNext
  Ends : ClientNext

-- the call that the client's step is of: the one under way, or its next command's
abbrev pub call_now : ℕ → Running → Command → Running
call_now c running.Idle asked = begun c asked
call_now c call asked = call

-- the place at which that call began, this one where it begins now
abbrev pub first_now : Running → ℕ → ℕ → ℕ
first_now running.Idle place first = place
first_now call place first = first

-- the client with its call so
abbrev pub going : Client → ℕ → Running → Client
going client first next = record { done = client.done; first = first; call = next }

-- the client with one more command done
abbrev pub over : Client → ℕ → Client
over client first = record { done = client.done + 1; first = first; call = running.Idle }

-- the entry of the client's call
abbrev pub entry : ℕ → Client → ℕ → ℕ → ℕ → Reply → List Take → Entry
entry c client first at last reply takes = record { client = c; number = client.done + 1; first = first; at = at; last = last; reply = reply; takes = takes }

-- what a step of the client's call leaves, by what it came to
abbrev pub client_by : ℕ → ℕ → Client → ℕ → Outcome Running → ClientNext
client_by c place client first (Going next after) = Moves (going client first next) after Nothing
client_by c place client first (Fixed next reply takes after) = Moves (going client first next) after (Adds (entry c client first place 0 reply takes))
client_by c place client first (Ended after) = Moves (over client first) after Closes
client_by c place client first (Answered reply takes after) = Moves (over client first) after (Adds (entry c client first place place reply takes))
client_by c place client first (Blocked holder) = Waits holder

-- the next step of a client, by its next command
abbrev pub client_next : ℕ → ℕ → Client → Servers → Option Command → ClientNext
client_next c place client s None = Ends
client_next c place client s (Some asked) =
    client_by c place client (first_now client.call place client.first) (step_of (call_now c client.call asked) c asked place s)
