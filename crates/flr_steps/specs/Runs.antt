-- What holds of steps and of runs of every script.
use Rattle.std.specs.Prelude.{◌≡◌, ◌↔◌, ℕ, ◌+◌, ◌<◌, Bool, true, List, [], ◌∷◌, ◌++◌, length, take, None, Some, slice_get}
use Rattle.script_values.specs.declared.command.Command.{Command}
use Rattle.script_values.specs.Scripts.{ScriptView, command_after}
use Rattle.call_steps.specs.Servers.{Servers}
use Rattle.call_steps.specs.Steps as steps
use Rattle.flr_steps.specs.declared.client.Client.{Client}
use Rattle.flr_steps.specs.declared.client.Note.{Note}
use Rattle.flr_steps.specs.Clients.{call_now}
use Rattle.flr_steps.specs.Commands.{step_of}
use Rattle.flr_steps.specs.States.{Blocked, Finished, IsRun, State, Stepped, Unknown, after, client_at, next, place_in, start, state_at, stepped, unfinished_of}
use Rattle.flr_steps.specs.Steps.{StepIs}
use Rattle.flr_steps.specs.Traces.{Doing, Trace, doing_of, done_with, is_idle, is_opening, made_by, new_trace, trace_after, traced, traced_by}

-- ---- steps

-- a step is exactly one that the inversion tells
abbrev pub StepsAreThese : Type 0
StepsAreThese = (s t : State) (c : ℕ) → (next s c ≡ Stepped t) ↔ StepIs s c t

-- what every step leaves: the client's place in the list, the servers and the entries changed, one more place in the schedule, and the script as it was
pub record LeavesSome (s : State) (c : ℕ) (t : State) : Type 0 where
  pub client : Client
  pub shared : Servers
  pub note : Note
  pub is : t ≡ stepped s c client shared note

abbrev pub EachStepLeaves : Type 0
EachStepLeaves = (s t : State) (c : ℕ) → StepIs s c t → LeavesSome s c t

-- a client is held up by a holder: it has a command, whose next step comes to that
pub record IsHeldUp (s : State) (c holder : ℕ) : Type 0 where
  pub client : Client
  pub here : client_at s.clients c ≡ Some client
  pub asked : Command
  pub commanded : command_after s.script c client.done ≡ Some asked
  pub made : step_of (call_now c client.call asked) c asked (place_in s) s.shared ≡ steps.Blocked holder

-- a client is there, and has no command left
pub record IsAtEnd (s : State) (c : ℕ) : Type 0 where
  pub client : Client
  pub here : client_at s.clients c ≡ Some client
  pub none : command_after s.script c client.done ≡ None

-- a step isn't made exactly for these: a holder is in the way, the client has no command left, or there is no such client
abbrev pub StopsAreThese : Type 0
StopsAreThese = (s : State) (c holder : ℕ) → ((next s c ≡ Blocked holder) ↔ IsHeldUp s c holder) × ((next s c ≡ Finished) ↔ IsAtEnd s c) × ((next s c ≡ Unknown) ↔ (client_at s.clients c ≡ None))

-- ---- runs

-- what a run from one state to another keeps and adds: the script and the number of clients stay, and the schedule grows by the run's
pub record RunsFrom (s : State) (schedule : List ℕ) (t : State) : Type 0 where
  pub script : t.script ≡ s.script
  pub places : t.schedule ≡ s.schedule ++ schedule
  pub clients : length t.clients ≡ length s.clients

abbrev pub EachRunKeeps : Type 0
EachRunKeeps = (s t : State) (schedule : List ℕ) → after s schedule ≡ Some t → RunsFrom s schedule t

-- at a place of a run, of which so many places are in front, this client made a step from one state to the next
pub record IsPlace (s : State) (schedule : List ℕ) (place c : ℕ) : Type 0 where
  pub old : State
  pub old_is : after s (take place schedule) ≡ Some old
  pub new : State
  pub new_is : after s (take (place + 1) schedule) ≡ Some new
  pub made : next old c ≡ Stepped new

abbrev pub EachPlaceIs : Type 0
EachPlaceIs = (s t : State) (schedule : List ℕ) (place c : ℕ) → after s schedule ≡ Some t → slice_get schedule place ≡ Some c → IsPlace s schedule place c

-- the states that a run went through are states of runs
abbrev pub FrontsAreRuns : Type 0
FrontsAreRuns = (last s : State) (place : ℕ) → IsRun last → state_at last.script last.schedule place ≡ Some s → IsRun s

-- what holds at the start and is kept by each step holds of every run
abbrev pub HoldsOfRuns : Type 0
HoldsOfRuns =
    (P : State → Bool) (script : ScriptView) (schedule : List ℕ) (last : State) → P (start script) ≡ true → ((s t : State) (c : ℕ) → P s ≡ true → StepIs s c t → P t ≡ true) →
    after (start script) schedule ≡ Some last → P last ≡ true

-- and so does what holds of a state and the trace beside it
abbrev pub HoldsBeside : Type 0
HoldsBeside =
    (P : State → Trace → Bool) (script : ScriptView) (schedule : List ℕ) (last : State) → P (start script) (new_trace (length script.clients)) ≡ true →
    ((s t : State) (trace : Trace) (c : ℕ) → P s trace ≡ true → StepIs s c t → P t (traced s t trace c) ≡ true) → after (start script) schedule ≡ Some last → P last (trace_after script schedule) ≡ true

-- ---- traces

-- the trace goes on with each step that is made
abbrev pub TraceGoesOn : Type 0
TraceGoesOn = (script : ScriptView) (schedule : List ℕ) (s t : State) (c : ℕ) → after (start script) schedule ≡ Some s → next s c ≡ Stepped t → trace_after script (schedule ++ c ∷ []) ≡ traced s t (trace_after script schedule) c

-- what a step leaves of the trace, by the call that it is a step of, what that call has done with it, and what it came to
abbrev pub doing_after : State → State → Trace → ℕ → Client → Command → Doing
doing_after s t trace c client asked =
    done_with (is_idle client.call) (is_opening (call_now c client.call asked)) (place_in s) (made_by (place_in s) s.shared.targets t.shared.targets) (doing_of trace c)

abbrev pub StepsAreTraced : Type 0
StepsAreTraced = (s t : State) (trace : Trace) (c : ℕ) (step : StepIs s c t) → traced s t trace c ≡ traced_by trace c (call_now c step.client.call step.asked) (doing_after s t trace c step.client step.asked) step.came

-- the trace has something for each client, and something for each entry
pub record IsBeside (s : State) (trace : Trace) : Type 0 where
  pub clients : length trace.running ≡ length s.clients
  pub entries : length trace.answered ≡ length s.entries

abbrev pub TracesStandBeside : Type 0
TracesStandBeside = (script : ScriptView) (schedule : List ℕ) (last : State) → after (start script) schedule ≡ Some last → IsBeside last (trace_after script schedule)

-- ---- who is unfinished

-- the client has a command left
pub record HasCommand (s : State) (c : ℕ) : Type 0 where
  pub client : Client
  pub here : client_at s.clients c ≡ Some client
  pub asked : Command
  pub left : command_after s.script c client.done ≡ Some asked

-- the client that is told to be unfinished has a command left, and none below it has; where none is told, nobody has
abbrev pub UnfinishedIsLowest : Type 0
UnfinishedIsLowest = (s : State) → ((c : ℕ) → unfinished_of s ≡ Some c → HasCommand s c × ((d : ℕ) → d < c → HasCommand s d → ⊥)) × (unfinished_of s ≡ None → (d : ℕ) → HasCommand s d → ⊥)
