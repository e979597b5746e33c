-- What the run of an input comes to.
use Rattle.std.specs.Prelude.{ℕ, List, length}
use Rattle.script_values.specs.Scripts.{ScriptView}
use Rattle.script_text.specs.Grammar.{Spells}
use Rattle.flr_steps.specs.Schedules.{IsTaken}
use Rattle.flr_steps.specs.States.{IsRun, State, start}
use Rattle.flr_migrate.specs.Migrations.{IsNoScript}
use Rattle.flr_soak.specs.Soaking.{IsSoaked}
use Rattle.flr_soak.specs.declared.draw.Outcome.{Outcome}
use Rattle.flr_soak.specs.declared.draw.Outcome.TheVariants as outcome

-- this is the script's run by the numbers from this seed on, in which no command is left
pub record IsDrawnRun (script : ScriptView) (seed : ℕ) (last : State) : Type 0 where
  pub taken : IsTaken script last.schedule last
  pub drawn : IsSoaked (length script.clients) seed (start script) last.schedule last
  pub run : IsRun last

-- the bytes spell a script, of which this is that run
pub record LeadsTo (seed : ℕ) (bytes : List ℕ) (last : State) : Type 0 where
  pub script : ScriptView
  pub spelled : Spells bytes script
  pub is : IsDrawnRun script seed last

abbrev pub IsOutcome : ℕ → List ℕ → Outcome → Type 0
IsOutcome seed bytes (outcome.Whole world) = LeadsTo seed bytes world
IsOutcome seed bytes (outcome.Refused line) = IsNoScript bytes line
