-- What a step of the world answers and leaves.
use Rattle.std.specs.Prelude.{◌≡◌, ℕ, List, Some}
use Rattle.script_values.specs.Scripts.{ScriptView}
use Rattle.turn_cell.specs.declared.stepped.StepAnswer.{StepAnswer}
use Rattle.turn_cell.specs.declared.stepped.StepAnswer.TheVariants as answer
use Rattle.flr_steps.specs.Runs.{HasCommand}
use Rattle.flr_steps.specs.States.{Blocked, Finished, State, Stepped, Unknown, after, next, start}

-- the step is made exactly as the next state says, or is told why it isn't; memory is wanted only for a client that has a command left
abbrev pub StepGives : State → ℕ → StepAnswer → State → Type 0
StepGives old c answer.Stepped new = next old c ≡ Stepped new
StepGives old c (answer.Blocked holder) new = (next old c ≡ Blocked holder) × (new ≡ old)
StepGives old c answer.Finished new = (next old c ≡ Finished) × (new ≡ old)
StepGives old c answer.Unknown new = (next old c ≡ Unknown) × (new ≡ old)
StepGives old c answer.NoMemory new = HasCommand old c × (new ≡ old)

-- the step was made, and leads to a state
pub record IsMade (s : State) (c : ℕ) : Type 0 where
  pub after : State
  pub made : next s c ≡ Stepped after

-- what a client may be answered in a state
abbrev pub MayAnswer : State → ℕ → StepAnswer → Type 0
MayAnswer s c answer.Stepped = IsMade s c
MayAnswer s c (answer.Blocked holder) = next s c ≡ Blocked holder
MayAnswer s c answer.Finished = next s c ≡ Finished
MayAnswer s c answer.Unknown = next s c ≡ Unknown
MayAnswer s c answer.NoMemory = HasCommand s c

-- what a client may be answered after this schedule of a script
abbrev pub IsAllowed : ScriptView → List ℕ → ℕ → StepAnswer → Type 0
IsAllowed script schedule c given = (s : State) → after (start script) schedule ≡ Some s → MayAnswer s c given
