-- The state of the whole, its next step, and the state after a schedule.
use Rattle.std.specs.Prelude.{◌≡◌, ℕ, ◌+◌, ◌-◌, zero, suc, List, [], ◌∷◌, ◌++◌, length, map, replicate, take, ◌==◌, ◌&&◌, if◌then◌else◌, Option, None, Some, is_some, slice_get, slice_set}
use Rattle.std.specs.Option.{option_and_then}
use Rattle.flr_base.specs.declared.reply.Entry.{Entry}
use Rattle.script_values.specs.Scripts.{ScriptView, command_after, IsScript}
use Rattle.object_target.specs.TargetState.{new_targets}
use Rattle.meta_server.specs.Files.{new_meta}
use Rattle.call_steps.specs.Servers.{Servers, servers}
use Rattle.flr_steps.specs.declared.client.Client.{Client}
use Rattle.flr_steps.specs.declared.client.Note.{Note}
use Rattle.flr_steps.specs.declared.client.Note.TheVariants.{Nothing, Adds, Closes}
use Rattle.flr_steps.specs.declared.client.Running.TheVariants as running
use Rattle.flr_steps.specs.Clients.{ClientNext, Moves, Ends, client_next}
use Rattle.flr_steps.specs.Clients as clients

-- the script, what the servers keep, each client, the calls whose answer is fixed, in the order of their points, and who stepped so far
pub record State : Type 0 where
  pub script : ScriptView
  pub shared : Servers
  pub clients : List Client
  pub entries : List Entry
  pub schedule : List ℕ

-- what the next step of a client is: it leaves this state, a holder is in its way, the client has no command left, or there is no such client
pub data Next : Type 0 where
  Stepped : (after : State) → Next
  Blocked : (holder : ℕ) → Next
  Finished : Next
  Unknown : Next

-- ---- one step

-- the place of the next step, counted from 1
abbrev pub place_in : State → ℕ
place_in s = length s.schedule + 1

-- the entry, which ends at this place where it is of that client and hasn't ended
abbrev pub closed : ℕ → ℕ → Entry → Entry
closed c place e = if (e.client == c) && (e.last == 0) then record e { last = place } else e

-- the entries once they have learnt of the client's step
abbrev pub noted : ℕ → ℕ → List Entry → Note → List Entry
noted c place entries Nothing = entries
noted c place entries (Adds entry) = entries ++ entry ∷ []
noted c place entries Closes = map (closed c place) entries

-- the client made a step, which left this
abbrev pub stepped : State → ℕ → Client → Servers → Note → State
stepped s c client after note = record {
  script = s.script;
  shared = after;
  clients = slice_set s.clients (c - 1) client;
  entries = noted c (place_in s) s.entries note;
  schedule = s.schedule ++ c ∷ [];
}

abbrev pub next_by : State → ℕ → ClientNext → Next
next_by s c (Moves client after note) = Stepped (stepped s c client after note)
next_by s c (clients.Waits holder) = Blocked holder
next_by s c Ends = Finished

-- a client by its number, from 1
abbrev pub client_at : List Client → ℕ → Option Client
client_at clients zero = None
client_at clients (suc c) = slice_get clients c

abbrev pub next_from : State → ℕ → Option Client → Next
next_from s c None = Unknown
next_from s c (Some client) = next_by s c (client_next c (place_in s) client s.shared (command_after s.script c client.done))

-- the next step of a client
abbrev pub next : State → ℕ → Next
next s c = next_from s c (client_at s.clients c)

-- ---- runs

-- before any step
abbrev pub new_client : Client
new_client = record { done = 0; first = 0; call = running.Idle }

-- the state before any step: no files, and targets that keep nothing
abbrev pub start : ScriptView → State
start script = record {
  script = script;
  shared = servers (new_meta script.targets script.most) (new_targets script.targets script.fails) [];
  clients = replicate (length script.clients) new_client;
  entries = [];
  schedule = [];
}

-- the state after a step, where it was made
abbrev pub state_of : Next → Option State
state_of (Stepped after) = Some after
state_of other = None

-- the state after a schedule, where each of its steps was made
abbrev pub after : State → List ℕ → Option State
after s [] = Some s
after s (c ∷ cs) = option_and_then (λ mid. after mid cs) (state_of (next s c))

-- the state after the first so many places of a schedule
abbrev pub state_at : ScriptView → List ℕ → ℕ → Option State
state_at script schedule place = after (start script) (take place schedule)

-- the lowest client that has a command left, where the first of the list has the number c
abbrev pub unfinished_from : ScriptView → ℕ → List Client → Option ℕ
unfinished_from script c [] = None
unfinished_from script c (client ∷ clients) = if is_some (command_after script c client.done) then Some c else unfinished_from script (c + 1) clients

-- the lowest client that has a command left
abbrev pub unfinished_of : State → Option ℕ
unfinished_of s = unfinished_from s.script 1 s.clients

-- a state that its schedule leads to, of a script within the limits
pub record IsRun (s : State) : Type 0 where
  pub limits : IsScript s.script
  pub run : after (start s.script) s.schedule ≡ Some s
