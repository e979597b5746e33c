-- Objects that were never made are empty.
use Rattle.flr_unmade.proofs.Keeping.{step_spares}
use Rattle.flr_unmade.proofs.Runs.{runs_spare, start_spares}
use Rattle.flr_unmade.proofs.laws.objects_never_made_are_empty.Goals as goal

pub returns-clause-start : goal.returns-clause-start
returns-clause-start c = start_spares

pub returns-clause-steps : goal.returns-clause-steps
returns-clause-steps c = step_spares

pub returns-clause-runs : goal.returns-clause-runs
returns-clause-runs c = runs_spare
