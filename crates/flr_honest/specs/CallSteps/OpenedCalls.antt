-- An entry's call of one kind that went on behind the step that last opened its file.
use Rattle.std.specs.Prelude.{◌≡◌, ◌⊎◌, ℕ, List, [], ◌∷◌, ◌++◌, Some}
use Rattle.std.specs.List.{AllByRecursion}
use Rattle.flr_base.specs.declared.reply.Entry.{Entry}
use Rattle.script_values.specs.declared.command.Command.{Command}
use Rattle.meta_server.specs.declared.answers.Opened.{Opened}
use Rattle.call_steps.specs.Runs.{CallStep}
use Rattle.call_steps.specs.Servers.{Servers}
use Rattle.call_steps.specs.Steps.{Outcome}
use Rattle.flr_numbers.specs.Hands.{Hand}
use Rattle.flr_steps.specs.declared.client.Running.{Running}
use Rattle.flr_steps.specs.States.{State}
use Rattle.flr_steps.specs.Traces.{Past}
use Rattle.flr_claims.specs.Calls.{HasOpened}
use Rattle.flr_honest.specs.Entries.{IsEntryOf, claimed}
use Rattle.flr_honest.specs.CallSteps.OpenedFiles.{IsOpenedAs}
use Rattle.flr_honest.specs.CallSteps.SinceOpening.{SinceOpening}
use Rattle.flr_honest.specs.CallSteps.TypedCalls.{IsTypedCallTo}

-- what the call has open, if it has something open, is this
abbrev pub IsOpenIn : Opened → Hand → Type 0
IsOpenIn o h = (z : Opened) → h.opened ≡ Some z → z ≡ o

-- behind the opening step stand more, the last of which is the point; what the opening step shows; the file that it got; and each step behind it has that open, if it has a file open
pub record WentOn {C : Type 0} (f : C → Running) (step : C → ℕ → Servers → Outcome C) (x : C) {s : State} {e : Entry} {p : Past} (is : IsEntryOf s e p) (asked : Command) (call : IsTypedCallTo f step x s.script s.schedule asked e p)
    (since : SinceOpening f step x (call.front ++ call.last ∷ [])) (name : List ℕ) (Shows : CallStep C → Type 0) (got : (y : CallStep C) → Shows y → Opened) (hand : C → Hand) : Type 0 where
  pub middle : List (CallStep C)
  pub are : since.rest ≡ middle ++ call.last ∷ []
  pub shows : Shows since.opening
  pub behind : IsOpenedAs since.opening.after.meta name (got since.opening shows)
  pub opened : HasOpened (claimed is) behind.file
  pub know : AllByRecursion (λ (y : CallStep C). IsOpenIn (got since.opening shows) (hand y.call)) since.rest

-- the entry's call, taken apart at its last opening step, which is that of the call as it began: that step is the point, or the call went on behind it
pub record OpensLast {C : Type 0} (f : C → Running) (step : C → ℕ → Servers → Outcome C) (x : C) {s : State} {e : Entry} {p : Past} (is : IsEntryOf s e p) (asked : Command) (call : IsTypedCallTo f step x s.script s.schedule asked e p)
    (name : List ℕ) (Shows : CallStep C → Type 0) (got : (y : CallStep C) → Shows y → Opened) (hand : C → Hand) : Type 0 where
  pub since : SinceOpening f step x (call.front ++ call.last ∷ [])
  pub same : since.opening.call ≡ x
  pub last : ((since.rest ≡ []) × (since.opening ≡ call.last)) ⊎ WentOn f step x is asked call since name Shows got hand
