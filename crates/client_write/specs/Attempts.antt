-- What a write or a truncate did since it opened its file last.
use Rattle.std.specs.Prelude.{◌≡◌, Bool, true, false, ℕ, ◌<◌, List, [], ◌∷◌, ◌++◌, length, map, take, Option, Some, None}
use Rattle.std.specs.List.{list_any}
use Rattle.object_target.specs.declared.call.CallAnswer.{CallAnswer}
use Rattle.object_target.specs.declared.call.CallAnswer.TheVariants as answer
use Rattle.object_target.specs.declared.call.CallEntry.{CallEntry}
use Rattle.meta_server.specs.declared.answers.Opened.{Opened}
use Rattle.meta_server.specs.Outcomes.{Gives, Refuses, Waits}
use Rattle.meta_server.specs.Outcomes as meta
use Rattle.object_target.specs.TargetState.{next_call}
use Rattle.call_steps.specs.Runs.{CallStep, Calls}
use Rattle.call_steps.specs.Servers.{target_at}

-- a call of a target: the target, and the entry of the call in its log
pub record TargetCall : Type 0 where
  pub target : ℕ
  pub entry : CallEntry

-- an attempt: what its open gave, if the file was opened, and the calls of targets since then, in their order
pub record Attempt : Type 0 where
  pub opened : Option Opened
  pub calls : List TargetCall

-- what a step does: it opens the file, it calls a target, or neither
pub data Deed : Type 0 where
  Opens : (opened : Opened) → Deed
  CallsTarget : (call : TargetCall) → Deed
  Neither : Deed

-- what comes of an open, as a deed
abbrev pub opened_by : meta.Outcome Opened → Deed
opened_by (Gives opened after) = Opens opened
opened_by (Refuses reply) = Neither
opened_by (Waits holder) = Neither

-- the file wasn't opened yet
abbrev pub no_attempt : Attempt
no_attempt = record { opened = None; calls = [] }

-- the attempt once a step did this: an open begins another one
abbrev pub with_deed : Attempt → Deed → Attempt
with_deed a (Opens opened) = record { opened = Some opened; calls = [] }
with_deed a (CallsTarget call) = record a { calls = a.calls ++ call ∷ [] }
with_deed a Neither = a

-- the attempt once these steps were made
abbrev pub attempt_after : {C : Type 0} → (CallStep C → Deed) → Attempt → List (CallStep C) → Attempt
attempt_after deed a [] = a
attempt_after deed a (made ∷ rest) = attempt_after deed (with_deed a (deed made)) rest

-- whether a call with this answer did what it is for
abbrev pub is_accepted : CallAnswer → Bool
is_accepted answer.Ok = true
is_accepted (answer.Old kept) = false
is_accepted answer.Failed = false

-- whether some call of the attempt was accepted
abbrev pub has_accepted : Attempt → Bool
has_accepted a = list_any (λ (call : TargetCall). is_accepted call.entry.answer) a.calls

-- the call, whatever it was answered, as it is where it is accepted
abbrev pub as_accepted : TargetCall → TargetCall
as_accepted call = record call { entry = record call.entry { answer = answer.Ok } }

-- the calls are the first of the wanted ones, each once and in their order, whatever they were answered; with no open there are none
abbrev pub AreFirstOf : (Opened → List TargetCall) → Option Opened → List TargetCall → Type 0
AreFirstOf wanted None calls = calls ≡ []
AreFirstOf wanted (Some opened) calls = map as_accepted calls ≡ take (length calls) (wanted opened)

-- the calls of the attempt are the first of those that its open wants
abbrev pub IsInOrder : (Opened → List TargetCall) → Attempt → Type 0
IsInOrder wanted a = AreFirstOf wanted a.opened a.calls

-- the calls of the attempt are all that its open wants, each accepted
pub record IsWhole (wanted : Opened → List TargetCall) (a : Attempt) : Type 0 where
  pub opened : Opened
  pub is : a.opened ≡ Some opened
  pub calls : a.calls ≡ wanted opened

-- the step made the call of its deed, where that target is there; else it called none
abbrev pub DoesDeed : {C : Type 0} → CallStep C → Deed → Type 0
DoesDeed made (Opens opened) = made.after.targets ≡ made.before.targets
DoesDeed made (CallsTarget call) = call.target < length made.before.targets → Calls made call.target (next_call (target_at made.before.targets call.target)) call.entry
DoesDeed made Neither = made.after.targets ≡ made.before.targets
