-- No run is longer than its script's work.
use Rattle.flr_runs.proofs.Runs.{runs_short}
use Rattle.flr_runs.proofs.laws.runs_are_short.Goals as goal

pub returns : goal.returns
returns c = record { short = runs_short }
