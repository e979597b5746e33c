-- The report of the run to which an input leads.
use Rattle.std.proofs.Common.{ℕ, List, refl}
use Rattle.flr_steps.specs.Reports.{text_of_run}
use Rattle.flr_steps.specs.States.{State}
use Rattle.flr_past.proofs.Runs.{are_whole}
use Rattle.flr_world.proofs.Claims.{runs_are_sound}
use Rattle.flr_run.specs.Outcomes.{LeadsTo}
use Rattle.flr_run.specs.Runs.{IsReport}

pub report_of_run : (bytes : List ℕ) (last : State) → LeadsTo bytes last → IsReport bytes (text_of_run last)
report_of_run bytes last leads = record { script = leads.script; last = last; spelled = leads.spelled; taken = leads.taken; written = refl; whole = are_whole last leads.run leads.taken.finished; sound = runs_are_sound last leads.run }
