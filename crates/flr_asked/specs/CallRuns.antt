-- A call of a run is a run of its call: its steps in their order, each from the state that the run had before it to the one that it left.
use Rattle.std.specs.Prelude.{◌≡◌, ℕ, ◌-◌, ◌≤◌, Bool, true, false, List, [], ◌∷◌, ◌++◌, length, Contains, Option, None, Some, slice_get}
use Rattle.std.specs.List.{AllByRecursion, flat_map}
use Rattle.flr_base.specs.declared.reply.Entry.{Entry}
use Rattle.flr_base.specs.declared.reply.Reply.{Reply}
use Rattle.flr_base.specs.declared.reply.Take.{Take}
use Rattle.script_values.specs.declared.command.Command.{Command}
use Rattle.script_values.specs.Scripts.{ScriptView, command_after}
use Rattle.call_steps.specs.Runs.{CallStep, IsRun, call_after}
use Rattle.call_steps.specs.Servers.{Servers}
use Rattle.call_steps.specs.Steps.{Outcome, Going, Fixed, Ended, Answered, Blocked, widen}
use Rattle.flr_steps.specs.declared.client.Client.{Client}
use Rattle.flr_steps.specs.declared.client.Running.{Running}
use Rattle.flr_steps.specs.declared.client.Running.TheVariants as running
use Rattle.flr_steps.specs.Clients.{call_now}
use Rattle.flr_steps.specs.Commands.{begun, step_of}
use Rattle.flr_steps.specs.Reports.{command_of}
use Rattle.flr_steps.specs.States.{State, client_at, state_at}
use Rattle.flr_steps.specs.Steps.{StepIs}
use Rattle.flr_steps.specs.Traces.{Doing, Made, Past, Trace, doing_of, is_opening, made_by}

-- ---- steps

-- the step of a client's call of this command, as the laws of calls speak of it
abbrev pub own_step : ℕ → Command → Running → ℕ → Servers → Outcome Running
own_step c asked call place s = step_of call c asked place s

-- the step stands in the run: it is the client's step at its place, of this command and call, from the servers before to those behind
pub record StandsIn (script : ScriptView) (schedule : List ℕ) (c : ℕ) (asked : Command) (x : CallStep Running) : Type 0 where
  pub old : State
  pub old_is : state_at script schedule (x.place - 1) ≡ Some old
  pub new : State
  pub new_is : state_at script schedule x.place ≡ Some new
  pub own : slice_get schedule (x.place - 1) ≡ Some c
  pub before_is : x.before ≡ old.shared
  pub after_is : x.after ≡ new.shared
  pub step : StepIs old c new
  pub asked_is : step.asked ≡ asked
  pub call_is : call_now c step.client.call asked ≡ x.call
  pub came_is : step.came ≡ x.came

-- each of these steps does
abbrev pub AllStand : ScriptView → List ℕ → ℕ → Command → List (CallStep Running) → Type 0
AllStand script schedule c asked steps = AllByRecursion (StandsIn script schedule c asked) steps

-- the step of a call of one kind, as one of a call of any kind
abbrev pub of_kind : {C : Type 0} → (C → Running) → CallStep C → CallStep Running
of_kind f x = record { call = f x.call; place = x.place; before = x.before; came = widen f x.came; after = x.after }

-- ---- what steps did

-- the calls of targets that a step made
abbrev pub made_in : {C : Type 0} → CallStep C → List Made
made_in x = made_by x.place x.before.targets x.after.targets

-- the place of the last of these steps that opened the file or began, else this one
abbrev pub place_if : Bool → ℕ → ℕ → ℕ
place_if true place last = place
place_if false place last = last

abbrev pub opened_in : ℕ → List (CallStep Running) → ℕ
opened_in last [] = last
opened_in last (x ∷ xs) = opened_in (place_if (is_opening x.call) x.place last) xs

-- what these steps did, as the trace tells it
abbrev pub done_in : List (CallStep Running) → Doing
done_in steps = record { opened = opened_in 0 steps; made = flat_map made_in steps }

-- the steps are all that the client made from the first to this place
abbrev pub AreAllFrom : List ℕ → ℕ → ℕ → ℕ → List (CallStep Running) → Type 0
AreAllFrom schedule c first last steps = (place : ℕ) → first ≤ place → place ≤ last → slice_get schedule (place - 1) ≡ Some c → (x : CallStep Running) × Contains steps x × (x.place ≡ place)

-- ---- calls

-- the call of this command, which began at this place, has come to this, and has done that: its steps are a run of it, and are all steps of the client since then
pub record IsCallSoFar (script : ScriptView) (schedule : List ℕ) (c : ℕ) (asked : Command) (first last : ℕ) (call : Running) (did : Doing) : Type 0 where
  pub begin : CallStep Running
  pub rest : List (CallStep Running)
  pub first_is : begin.place ≡ first
  pub run : IsRun (own_step c asked) (begun c asked) (begin ∷ rest)
  pub so_far : call_after (begin ∷ rest) (Some (begun c asked)) ≡ Some call
  pub stand : AllStand script schedule c asked (begin ∷ rest)
  pub all : AreAllFrom schedule c first last (begin ∷ rest)
  pub did_is : did ≡ done_in (begin ∷ rest)

-- the step fixes this answer
abbrev pub FixesAnswer : {C : Type 0} → Outcome C → Reply → List Take → Type 0
FixesAnswer (Fixed next reply takes after) answer from = (reply ≡ answer) × (takes ≡ from)
FixesAnswer (Answered reply takes after) answer from = (reply ≡ answer) × (takes ≡ from)
FixesAnswer other answer from = ⊥

-- the entry's call of this command: its steps up to its point, the last of which fixed its answer, are a run of it, and are all steps of the client since it began; and the trace tells what they did
pub record IsCallTo (script : ScriptView) (schedule : List ℕ) (asked : Command) (e : Entry) (p : Past) : Type 0 where
  pub front : List (CallStep Running)
  pub last : CallStep Running
  pub run : IsRun (own_step e.client asked) (begun e.client asked) (front ++ last ∷ [])
  pub stand : AllStand script schedule e.client asked (front ++ last ∷ [])
  pub begins : (x : CallStep Running) (rest : List (CallStep Running)) → front ++ last ∷ [] ≡ x ∷ rest → x.place ≡ e.first
  pub all : AreAllFrom schedule e.client e.first e.at (front ++ last ∷ [])
  pub call_is : last.call ≡ p.call
  pub place_is : last.place ≡ e.at
  pub fixes : FixesAnswer last.came e.reply e.takes
  pub did_is : p.doing ≡ done_in (front ++ last ∷ [])

-- ---- of every run

-- each call under way is a run of its command's call
abbrev pub CallsAreRuns : State → Trace → Type 0
CallsAreRuns s t = (c : ℕ) (client : Client) (asked : Command) → client_at s.clients c ≡ Some client → command_after s.script c client.done ≡ Some asked → (client.call ≡ running.Idle → ⊥)
    → IsCallSoFar s.script s.schedule c asked client.first (length s.schedule) client.call (doing_of t c)

-- and so is that of each entry, up to its point
abbrev pub EntriesAreRuns : State → Trace → Type 0
EntriesAreRuns s t = (i : ℕ) (e : Entry) (p : Past) → slice_get s.entries i ≡ Some e → slice_get t.answered i ≡ Some p → (asked : Command) × (command_of s.script e ≡ Some asked) × IsCallTo s.script s.schedule asked e p
