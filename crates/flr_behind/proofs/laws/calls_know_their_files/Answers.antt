-- Each call knows its file.
use Rattle.flr_behind.proofs.Keeping.{step_knows}
use Rattle.flr_behind.proofs.Runs.{runs_know, start_knows}
use Rattle.flr_behind.proofs.laws.calls_know_their_files.Goals as goal

pub returns-clause-start : goal.returns-clause-start
returns-clause-start c = start_knows

pub returns-clause-steps : goal.returns-clause-steps
returns-clause-steps c = step_knows

pub returns-clause-runs : goal.returns-clause-runs
returns-clause-runs c = runs_know
