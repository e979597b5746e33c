-- A call of one kind in a run: its steps as steps of that kind, up to its point.
use Rattle.std.specs.Prelude.{◌≡◌, ℕ, ◌-◌, ◌≤◌, List, [], ◌∷◌, ◌++◌, map, Contains, Option, Some, slice_get}
use Rattle.std.specs.List.{AllByRecursion}
use Rattle.flr_base.specs.declared.reply.Entry.{Entry}
use Rattle.script_values.specs.declared.command.Command.{Command}
use Rattle.script_values.specs.Scripts.{ScriptView}
use Rattle.call_steps.specs.Runs.{CallStep, IsRun, IsRunOf, Leaves}
use Rattle.call_steps.specs.Servers.{Servers}
use Rattle.call_steps.specs.Steps.{Outcome, widen}
use Rattle.flr_steps.specs.declared.client.Running.{Running}
use Rattle.flr_steps.specs.declared.client.Running.TheVariants as running
use Rattle.flr_steps.specs.Commands.{at_once}
use Rattle.flr_steps.specs.Traces.{Past}
use Rattle.flr_asked.specs.CallRuns.{FixesAnswer, StandsIn, done_in, of_kind, own_step}

-- calls of this kind take their own steps
abbrev pub TakesItsSteps : {C : Type 0} → ℕ → Command → (C → Running) → (C → ℕ → Servers → Outcome C) → Type 0
TakesItsSteps {C} c asked f step = (x : C) (place : ℕ) (s : Servers) → own_step c asked (f x) place s ≡ widen f (step x place s)

-- each of these steps of one kind stands in the run
abbrev pub AllStandAs : {C : Type 0} → (C → Running) → ScriptView → List ℕ → ℕ → Command → List (CallStep C) → Type 0
AllStandAs {C} f script schedule c asked steps = AllByRecursion (λ (x : CallStep C). StandsIn script schedule c asked (of_kind f x)) steps

-- these steps are steps of one kind, which are a run of a call of that kind
pub record AreOfKind {C : Type 0} (f : C → Running) (step : C → ℕ → Servers → Outcome C) (call : Option C) (last : ℕ) (steps : List (CallStep Running)) : Type 0 where
  pub typed : List (CallStep C)
  pub are : map (of_kind f) typed ≡ steps
  pub run : IsRunOf step typed call last

-- and so are these with their last one
pub record EndOfKind {C : Type 0} (f : C → Running) (step : C → ℕ → Servers → Outcome C) (call : C) (front : List (CallStep Running)) (last : CallStep Running) : Type 0 where
  pub before : List (CallStep C)
  pub end : CallStep C
  pub before_are : map (of_kind f) before ≡ front
  pub end_is : of_kind f end ≡ last
  pub run : IsRun step call (before ++ end ∷ [])

-- the entry's call of this command, of one kind: its steps up to its point, the last of which fixed its answer, are a run of it, and are all steps of the client since it began; and the trace tells what they did
pub record IsTypedCallTo {C : Type 0} (f : C → Running) (step : C → ℕ → Servers → Outcome C) (call : C) (script : ScriptView) (schedule : List ℕ) (asked : Command) (e : Entry) (p : Past) : Type 0 where
  pub front : List (CallStep C)
  pub last : CallStep C
  pub run : IsRun step call (front ++ last ∷ [])
  pub stand : AllStandAs f script schedule e.client asked (front ++ last ∷ [])
  pub begins : (x : CallStep C) (rest : List (CallStep C)) → front ++ last ∷ [] ≡ x ∷ rest → x.place ≡ e.first
  pub all : (place : ℕ) → e.first ≤ place → place ≤ e.at → slice_get schedule (place - 1) ≡ Some e.client → (x : CallStep C) × Contains (front ++ last ∷ []) x × (x.place ≡ place)
  pub call_is : f last.call ≡ p.call
  pub place_is : last.place ≡ e.at
  pub fixes : FixesAnswer last.came e.reply e.takes
  pub did_is : p.doing ≡ done_in (map (of_kind f) (front ++ last ∷ []))

-- the entry's call of a command of one step: that step
pub record IsStepTo (script : ScriptView) (schedule : List ℕ) (asked : Command) (e : Entry) (p : Past) : Type 0 where
  pub step : CallStep Running
  pub stand : StandsIn script schedule e.client asked step
  pub idle : step.call ≡ running.Idle
  pub came : step.came ≡ at_once e.client asked step.place step.before
  pub left : Leaves step.came step.after
  pub begins : step.place ≡ e.first
  pub call_is : p.call ≡ running.Idle
  pub place_is : step.place ≡ e.at
  pub fixes : FixesAnswer step.came e.reply e.takes
  pub did_is : p.doing ≡ done_in (step ∷ [])
