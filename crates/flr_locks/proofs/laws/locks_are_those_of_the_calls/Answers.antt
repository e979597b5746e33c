-- The locks are those of the calls, and are apart.
use Rattle.flr_locks.proofs.Keeping.{step_locks}
use Rattle.flr_locks.proofs.Runs.{runs_lock, start_locks}
use Rattle.flr_locks.proofs.laws.locks_are_those_of_the_calls.Goals as goal

pub returns-clause-start : goal.returns-clause-start
returns-clause-start c = start_locks

pub returns-clause-steps : goal.returns-clause-steps
returns-clause-steps c = step_locks

pub returns-clause-runs : goal.returns-clause-runs
returns-clause-runs c = runs_lock
