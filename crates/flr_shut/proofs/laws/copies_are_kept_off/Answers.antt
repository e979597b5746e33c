-- Each copy is kept off.
use Rattle.flr_shut.proofs.Keeping.{step_shut}
use Rattle.flr_shut.proofs.Runs.{runs_shut, start_shut}
use Rattle.flr_shut.proofs.laws.copies_are_kept_off.Goals as goal

pub returns-clause-start : goal.returns-clause-start
returns-clause-start c = start_shut

pub returns-clause-steps : goal.returns-clause-steps
returns-clause-steps c = step_shut

pub returns-clause-runs : goal.returns-clause-runs
returns-clause-runs c = runs_shut
