-- Truncates found their layouts ready.
use Rattle.flr_honest.proofs.Closing.Readying.{runs_ready, start_ready, step_ready}
use Rattle.flr_honest.proofs.laws.truncates_are_readied.Goals as goal

pub returns-clause-start : goal.returns-clause-start
returns-clause-start c = start_ready

pub returns-clause-steps : goal.returns-clause-steps
returns-clause-steps c = step_ready

pub returns-clause-runs : goal.returns-clause-runs
returns-clause-runs c = runs_ready
