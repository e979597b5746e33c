-- What `flr run` writes for the bytes of its input.
use Rattle.std.specs.Prelude.{◌≡◌, ℕ, List}
use Rattle.script_values.specs.Scripts.{ScriptView}
use Rattle.script_text.specs.Grammar.{Spells}
use Rattle.flr_steps.specs.Reports.{text_of_run}
use Rattle.flr_steps.specs.Schedules.{IsTaken}
use Rattle.flr_steps.specs.States.{State}
use Rattle.plain_files.specs.Histories.{IsWhole}
use Rattle.flr_world.specs.Claims.{IsSoundRun}

-- status 0: the bytes spell a script, which takes the schedule that came about, and the text is the report of that run. Every command stands in it once and has ended, and the run is sound
pub record IsReport (bytes text : List ℕ) : Type 0 where
  pub script : ScriptView
  pub last : State
  pub spelled : Spells bytes script
  pub taken : IsTaken script last.schedule last
  pub written : text ≡ text_of_run last
  pub whole : IsWhole last.script last.entries
  pub sound : IsSoundRun last
