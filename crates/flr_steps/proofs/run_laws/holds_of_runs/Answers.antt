use Rattle.flr_steps.proofs.TraceLaws.{holds_of_runs}
use Rattle.flr_steps.proofs.run_laws.holds_of_runs.Goals as goal

pub returns : goal.returns
returns c = record { holds = holds_of_runs }
