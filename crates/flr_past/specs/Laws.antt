-- What is claimed of the entries of every run.
use Rattle.std.specs.Prelude.{◌≡◌, ℕ, List, length, map, Some}
use Rattle.std.specs.List.{AllByRecursion}
use Rattle.flr_base.specs.declared.reply.Entry.{Entry}
use Rattle.flr_base.specs.declared.reply.Reply.{Reply}
use Rattle.flr_base.specs.declared.reply.Take.{Take}
use Rattle.script_values.specs.declared.command.Command.{Command}
use Rattle.call_steps.specs.Servers.{Servers}
use Rattle.call_steps.specs.Steps.{Ended, Fixed}
use Rattle.flr_steps.specs.declared.client.Client.{Client}
use Rattle.flr_steps.specs.declared.client.Running.{Running}
use Rattle.flr_steps.specs.Clients.{call_now}
use Rattle.flr_steps.specs.Commands.{step_of}
use Rattle.flr_steps.specs.States.{IsRun, State, client_at, closed, place_in}
use Rattle.flr_steps.specs.Steps.{StepIs}
use Rattle.plain_files.specs.Histories.{entries_of}
use Rattle.flr_past.specs.Phases.{FixesAnswer, FixesOnce, is_fixed}
use Rattle.flr_claims.specs.Claims.{AreInOrder}
use Rattle.flr_past.specs.Sentences.{EndsOne, IsOpenAt, IsThere, StandBy, ended_at}

-- the step of a call, or of the command that begins with it, fixes an open answer at most, and ends a call whose answer is fixed
abbrev pub AnswersAreFixedOnce : Type 0
AnswersAreFixedOnce = (c : ℕ) (call : Running) (asked : Command) (place : ℕ) (s : Servers) → FixesOnce (is_fixed call) (step_of (call_now c call asked) c asked place s)

-- in every run the entries are in order
abbrev pub RunsAreInOrder : Type 0
RunsAreInOrder = (s : State) → IsRun s → AreInOrder s

-- and each is of a client that is there
abbrev pub EntriesHaveClients : Type 0
EntriesHaveClients = (s : State) → IsRun s → AllByRecursion (λ (e : Entry). IsThere s e.client) s.entries

-- ---- whose call hasn't ended

-- a client has an ended entry for each command that is done, and one more, which hasn't ended, exactly where the answer of its call is fixed
abbrev pub OnlyLastIsOpen : Type 0
OnlyLastIsOpen = (s : State) (c : ℕ) (client : Client) → IsRun s → client_at s.clients c ≡ Some client → StandBy (is_fixed client.call) (entries_of c s.entries) client.done

-- no client has two entries that haven't ended
abbrev pub OneIsOpen : Type 0
OneIsOpen = (s : State) (c i j : ℕ) → IsRun s → IsOpenAt s.entries c i → IsOpenAt s.entries c j → i ≡ j

-- a step that fixes an answer finds none of its client
abbrev pub FixesWithNoneOpen : Type 0
FixesWithNoneOpen = (s t : State) (c place : ℕ) → IsRun s → (step : StepIs s c t) → FixesAnswer step.came → IsOpenAt s.entries c place → ⊥

-- and if the call goes on, its entry is open behind all others
abbrev pub FixedIsOpenLast : Type 0
FixedIsOpenLast = (s t : State) (c : ℕ) (next : Running) (reply : Reply) (takes : List Take) (after : Servers) → (step : StepIs s c t) → step.came ≡ Fixed next reply takes after → IsOpenAt t.entries c (length s.entries)

-- a step that ends a call whose answer was fixed before finds one, with the call's number, and ends it
abbrev pub LastStepsEndOne : Type 0
LastStepsEndOne = (s t : State) (c : ℕ) (after : Servers) → IsRun s → (step : StepIs s c t) → step.came ≡ Ended after → EndsOne s c step.client.done t

-- to end what a client has open is to change the entry at that place
abbrev pub ClosingIsOfOne : Type 0
ClosingIsOfOne = (s : State) (c place : ℕ) → IsRun s → (at : IsOpenAt s.entries c place) → map (closed c (place_in s)) s.entries ≡ ended_at s place at.entry

-- a step of another client leaves it open, at its place
abbrev pub OthersStayOpen : Type 0
OthersStayOpen = (s t : State) (c d place : ℕ) → StepIs s d t → (d ≡ c → ⊥) → IsOpenAt s.entries c place → IsOpenAt t.entries c place
