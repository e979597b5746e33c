-- What each call did on its way: a record beside the states of a run, which no code keeps.
use Rattle.std.specs.Prelude.{ℕ, ◌+◌, ◌-◌, ◌&&◌, Bool, true, false, nat_lt, List, [], ◌∷◌, ◌++◌, length, drop, take, replicate, Option, None, Some, slice_set, slice_index_or}
use Rattle.std.specs.List.{flat_map, range_with_len, filter}
use Rattle.object_target.specs.declared.call.CallAnswer.{CallAnswer}
use Rattle.object_target.specs.declared.call.CallAnswer.TheVariants as answer
use Rattle.object_target.specs.declared.call.CallEntry.{CallEntry}
use Rattle.object_target.specs.declared.call.CallKind.{CallKind}
use Rattle.object_target.specs.declared.call.CallKind.TheVariants as kind
use Rattle.object_target.specs.declared.fail.Fail.{Fail}
use Rattle.object_target.specs.Calls.{has_effect}
use Rattle.object_target.specs.Fails.{fails_on, kind_of}
use Rattle.object_target.specs.TargetState.{TargetState, bytes_at, version_at}
use Rattle.script_values.specs.declared.command.Command.{Command}
use Rattle.script_values.specs.Scripts.{ScriptView, command_after}
use Rattle.call_steps.specs.Servers.{target_at}
use Rattle.call_steps.specs.Steps.{Outcome, Going, Fixed, Ended, Answered, Blocked}
use Rattle.client_read.specs.declared.phase.ReadAt.{ReadAt}
use Rattle.client_read.specs.declared.phase.ReadAt.TheVariants as read
use Rattle.client_write.specs.declared.phase.CutAt.{CutAt}
use Rattle.client_write.specs.declared.phase.CutAt.TheVariants as cut
use Rattle.client_write.specs.declared.phase.WriteAt.{WriteAt}
use Rattle.client_write.specs.declared.phase.WriteAt.TheVariants as write
use Rattle.resync_copy.specs.declared.phase.CopyAt.{CopyAt}
use Rattle.resync_copy.specs.declared.phase.CopyAt.TheVariants as copy
use Rattle.mirror_verify.specs.declared.phase.VerifyAt.{VerifyAt}
use Rattle.mirror_verify.specs.declared.phase.VerifyAt.TheVariants as verify
use Rattle.flr_steps.specs.declared.client.Client.{Client}
use Rattle.flr_steps.specs.declared.client.Running.{Running}
use Rattle.flr_steps.specs.declared.client.Running.TheVariants as running
use Rattle.flr_steps.specs.Commands.{step_of}
use Rattle.flr_steps.specs.Clients.{call_now}
use Rattle.flr_steps.specs.States.{State, Next, Stepped, client_at, next, place_in, start}

-- ---- the calls of targets

-- a call of a target: the place of the step that made it, the target and the call's number there, its entry in the log, and what its object kept before: the version and the bytes
pub record Made : Type 0 where
  pub place : ℕ
  pub target : ℕ
  pub call : ℕ
  pub entry : CallEntry
  pub kept : ℕ
  pub bytes : List ℕ

-- whether calls of this kind change the bytes of a file
abbrev pub is_sending : CallKind → Bool
is_sending kind.Write = true
is_sending kind.Punch = true
is_sending other = false

-- whether the call was sent, and not refused as too old
abbrev pub is_accepted : CallAnswer → Bool
is_accepted (answer.Old kept) = false
is_accepted other = true

-- whether a call did what it is for: it went through, or only its answer was lost and the object kept no greater version
abbrev pub has_landed : List Fail → Made → Bool
has_landed fails m = has_effect (kind_of (fails_on m.target fails) m.call) (nat_lt m.entry.version m.kept)

-- entries of a target's log that a step added, of which the first has this number
abbrev pub made_from : ℕ → ℕ → TargetState → ℕ → List CallEntry → List Made
made_from place id before number [] = []
made_from place id before number (entry ∷ entries) =
    record { place = place; target = id; call = number; entry = entry; kept = version_at before entry.object; bytes = bytes_at before entry.object }
    ∷ made_from place id before (number + 1) entries

-- the calls of one target that a step made
abbrev pub made_on : ℕ → List TargetState → List TargetState → ℕ → List Made
made_on place old new id =
    let count : ℕ = length (target_at old id).calls in made_from place id (target_at old id) (count + 1) (drop count (target_at new id).calls)

-- the calls of all targets that a step made
abbrev pub made_by : ℕ → List TargetState → List TargetState → List Made
made_by place old new = flat_map (made_on place old new) (range_with_len 0 (length new))

-- ---- what a call has done

-- the place at which a call last opened its file or began, and the calls of targets that it made, in their order
pub record Doing : Type 0 where
  pub opened : ℕ
  pub made : List Made

abbrev pub nothing_done : Doing
nothing_done = record { opened = 0; made = [] }

-- the calls that it made since it last opened its file
abbrev pub made_since_open : Doing → List Made
made_since_open d = filter (λ (m : Made). nat_lt d.opened m.place) d.made

-- those of a writing call that weren't refused as too old: what it has sent of its parts
abbrev pub sent_calls : Doing → List Made
sent_calls d = filter (λ (m : Made). is_sending m.entry.kind && is_accepted m.entry.answer) (made_since_open d)

-- whether a call is to open its file, or to begin, at its next step
abbrev pub read_opens : ReadAt → Bool
read_opens read.Open = true
read_opens other = false

abbrev pub write_opens : WriteAt → Bool
write_opens write.Open = true
write_opens other = false

abbrev pub cut_opens : CutAt → Bool
cut_opens cut.Open = true
cut_opens other = false

abbrev pub copy_begins : CopyAt → Bool
copy_begins copy.Begin = true
copy_begins other = false

abbrev pub verify_opens : VerifyAt → Bool
verify_opens verify.Open = true
verify_opens other = false

abbrev pub is_opening : Running → Bool
is_opening running.Idle = true
is_opening (running.Read call) = read_opens call.at
is_opening (running.Write call) = write_opens call.at
is_opening (running.Truncate call) = cut_opens call.at
is_opening (running.Verify call) = verify_opens call.at
is_opening (running.Copy call) = copy_begins call.at

-- ---- beside a run

-- a call whose answer is fixed: the call as it was before that step, and what it had done by then
pub record Past : Type 0 where
  pub call : Running
  pub doing : Doing

-- what the call of each client has done, and for each entry what had been done for it
pub record Trace : Type 0 where
  pub running : List Doing
  pub answered : List Past

-- nothing has been done by any of so many clients
abbrev pub new_trace : ℕ → Trace
new_trace clients = record { running = replicate clients nothing_done; answered = [] }

abbrev pub doing_of : Trace → ℕ → Doing
doing_of t c = slice_index_or t.running (c - 1) nothing_done

-- what a client's call has done once it made a step at this place, which made these calls: a call that begins has done nothing before, and a call that opens its file at this step opened it last here
abbrev pub done_with : Bool → Bool → ℕ → List Made → Doing → Doing
done_with true opens place made d = record { opened = place; made = made }
done_with false true place made d = record { opened = place; made = d.made ++ made }
done_with false false place made d = record { opened = d.opened; made = d.made ++ made }

abbrev pub is_idle : Running → Bool
is_idle running.Idle = true
is_idle other = false

abbrev pub with_doing : Trace → ℕ → Doing → Trace
with_doing t c d = record t { running = slice_set t.running (c - 1) d }

abbrev pub with_past : Trace → ℕ → Running → Doing → Trace
with_past t c call d = record { running = slice_set t.running (c - 1) d; answered = t.answered ++ record { call = call; doing = d } ∷ [] }

-- the trace, once the call of this client did so much and came to that
abbrev pub traced_by : Trace → ℕ → Running → Doing → Outcome Running → Trace
traced_by t c call d (Going next after) = with_doing t c d
traced_by t c call d (Fixed next reply takes after) = with_past t c call d
traced_by t c call d (Ended after) = with_doing t c d
traced_by t c call d (Answered reply takes after) = with_past t c call d
traced_by t c call d (Blocked holder) = t

-- the trace after a step of this client's call, which leaves these targets
abbrev pub traced_call : State → List TargetState → Trace → ℕ → Client → Command → Trace
traced_call s targets t c client asked =
    let call : Running = call_now c client.call asked in
    traced_by t c call (done_with (is_idle client.call) (is_opening call) (place_in s) (made_by (place_in s) s.shared.targets targets) (doing_of t c)) (step_of call c asked (place_in s) s.shared)

abbrev pub traced_from : State → State → Trace → ℕ → Option Client → Option Command → Trace
traced_from s new t c (Some client) (Some asked) = traced_call s new.shared.targets t c client asked
traced_from s new t c client asked = t

-- the command that the client's next step is of
abbrev pub asked_of : State → ℕ → Option Client → Option Command
asked_of s c (Some client) = command_after s.script c client.done
asked_of s c None = None

-- the trace after the client's step from one state to the next
abbrev pub traced : State → State → Trace → ℕ → Trace
traced s new t c = traced_from s new t c (client_at s.clients c) (asked_of s c (client_at s.clients c))

abbrev pub trace_by : Trace → State → ℕ → List ℕ → (State → Trace → Trace) → Next → Trace
trace_by t s c cs rest (Stepped new) = rest new (traced s new t c)
trace_by t s c cs rest other = t

-- the trace after a schedule, as far as its steps are made
abbrev pub trace_from : State → Trace → List ℕ → Trace
trace_from s t [] = t
trace_from s t (c ∷ cs) = trace_by t s c cs (λ new more. trace_from new more cs) (next s c)

-- the trace of a schedule from the start of a script
abbrev pub trace_after : ScriptView → List ℕ → Trace
trace_after script schedule = trace_from (start script) (new_trace (length script.clients)) schedule

-- the trace after its first so many places
abbrev pub trace_at : ScriptView → List ℕ → ℕ → Trace
trace_at script schedule place = trace_after script (take place schedule)
