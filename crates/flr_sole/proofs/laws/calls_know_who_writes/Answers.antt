-- Each call knows it.
use Rattle.flr_sole.proofs.Runs.{runs_sole, start_sole}
use Rattle.flr_sole.proofs.Steps.{step_sole}
use Rattle.flr_sole.proofs.laws.calls_know_who_writes.Goals as goal

pub returns-clause-start : goal.returns-clause-start
returns-clause-start c = start_sole

pub returns-clause-steps : goal.returns-clause-steps
returns-clause-steps c = step_sole

pub returns-clause-runs : goal.returns-clause-runs
returns-clause-runs c = runs_sole
