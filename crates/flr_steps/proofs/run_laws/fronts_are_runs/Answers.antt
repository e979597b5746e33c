use Rattle.flr_steps.proofs.Fronts.{fronts_are_runs}
use Rattle.flr_steps.proofs.run_laws.fronts_are_runs.Goals as goal

pub returns : goal.returns
returns c = record { runs = fronts_are_runs }
