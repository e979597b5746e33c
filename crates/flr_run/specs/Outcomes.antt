-- What the run of an input comes to.
use Rattle.std.specs.Prelude.{ℕ, List}
use Rattle.script_values.specs.Scripts.{ScriptView}
use Rattle.script_text.specs.Grammar.{Spells}
use Rattle.flr_steps.specs.Schedules.{IsTaken}
use Rattle.flr_steps.specs.States.{IsRun, State}
use Rattle.flr_migrate.specs.Migrations.{IsNoScript}
use Rattle.flr_run.specs.declared.crew.Outcome.{Outcome}
use Rattle.flr_run.specs.declared.crew.Outcome.TheVariants as outcome

-- the bytes spell a script, and this is a run of it in which no command is left
pub record LeadsTo (bytes : List ℕ) (last : State) : Type 0 where
  pub script : ScriptView
  pub spelled : Spells bytes script
  pub taken : IsTaken script last.schedule last
  pub run : IsRun last

abbrev pub IsOutcome : List ℕ → Outcome → Type 0
IsOutcome bytes (outcome.Whole world) = LeadsTo bytes world
IsOutcome bytes (outcome.Refused line) = IsNoScript bytes line
