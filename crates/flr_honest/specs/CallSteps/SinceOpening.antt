-- A call of one kind since it last opened its file or began.
use Rattle.std.specs.Prelude.{◌≡◌, ◌⊎◌, ℕ, true, false, List, [], ◌∷◌, ◌++◌, map, Some}
use Rattle.std.specs.List.{AllByRecursion, flat_map}
use Rattle.call_steps.specs.Runs.{CallStep, IsRun, IsRunOf, call_after, goes_on, place_after}
use Rattle.call_steps.specs.Servers.{Servers}
use Rattle.call_steps.specs.Steps.{Outcome}
use Rattle.resync_copy.specs.Calls.{CopyView}
use Rattle.resync_copy.specs.Steps.{copy_step}
use Rattle.flr_steps.specs.declared.client.Running.{Running}
use Rattle.flr_steps.specs.declared.client.Running.TheVariants as running
use Rattle.flr_steps.specs.Traces.{is_opening, made_since_open}
use Rattle.flr_asked.specs.CallRuns.{done_in, made_in, of_kind}

-- none of these steps opens a file or begins
abbrev pub NoneOpens : {C : Type 0} → (C → Running) → List (CallStep C) → Type 0
NoneOpens {C} f steps = AllByRecursion (λ (x : CallStep C). is_opening (f x.call) ≡ false) steps

-- the steps, taken apart at the last one that opens the file or begins: what the trace tells to have been made since then is what the steps behind it made
pub record SinceOpening {C : Type 0} (f : C → Running) (step : C → ℕ → Servers → Outcome C) (call : C) (steps : List (CallStep C)) : Type 0 where
  pub front : List (CallStep C)
  pub opening : CallStep C
  pub rest : List (CallStep C)
  pub are : steps ≡ front ++ opening ∷ rest
  pub opens : is_opening (f opening.call) ≡ true
  pub none : NoneOpens f rest
  pub before : IsRun step call front
  pub came : call_after front (Some call) ≡ Some opening.call
  pub run : IsRunOf step (opening ∷ rest) (Some opening.call) (place_after front 0)
  pub opened : (done_in (map (of_kind f) steps)).opened ≡ opening.place
  pub made : made_since_open (done_in (map (of_kind f) steps)) ≡ flat_map made_in rest

-- the last step of a call is this one that opened its file or began, or stands behind it
abbrev pub IsLastSince : {C : Type 0} → CallStep C → List (CallStep C) → CallStep C → Type 0
IsLastSince {C} opening rest last = ((rest ≡ []) × (opening ≡ last)) ⊎ ((middle : List (CallStep C)) × (rest ≡ middle ++ last ∷ []))

-- the steps of a copy: its begin, and what is behind it, which is all that the trace tells since its begin
pub record SinceBegin (call : CopyView) (steps : List (CallStep CopyView)) : Type 0 where
  pub begin : CallStep CopyView
  pub rest : List (CallStep CopyView)
  pub are : steps ≡ begin ∷ rest
  pub same : begin.call ≡ call
  pub none : NoneOpens running.Copy rest
  pub run : IsRunOf copy_step rest (goes_on begin.came) begin.place
  pub opened : (done_in (map (of_kind running.Copy) steps)).opened ≡ begin.place
  pub made : made_since_open (done_in (map (of_kind running.Copy) steps)) ≡ flat_map made_in rest
