-- What `flr random` writes for the bytes of its input.
use Rattle.std.specs.Prelude.{◌≡◌, ℕ, List, length}
use Rattle.script_values.specs.Scripts.{ScriptView}
use Rattle.script_text.specs.Grammar.{Spells}
use Rattle.flr_steps.specs.Reports.{text_of_run}
use Rattle.flr_steps.specs.Schedules.{IsTaken}
use Rattle.flr_steps.specs.States.{State, start}
use Rattle.plain_files.specs.Histories.{IsWhole}
use Rattle.flr_world.specs.Claims.{IsSoundRun}
use Rattle.flr_soak.specs.Soaking.{IsSoaked}

-- status 0: the bytes spell a script, the text is the report of its run, and that run is the one that the numbers from this seed on make, one step for each draw. Every command stands in it once and has ended, and the run is sound
pub record IsReport (seed : ℕ) (bytes text : List ℕ) : Type 0 where
  pub script : ScriptView
  pub last : State
  pub spelled : Spells bytes script
  pub taken : IsTaken script last.schedule last
  pub drawn : IsSoaked (length script.clients) seed (start script) last.schedule last
  pub written : text ≡ text_of_run last
  pub whole : IsWhole last.script last.entries
  pub sound : IsSoundRun last
