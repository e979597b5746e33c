-- Each call sends its parts.
use Rattle.flr_honest.proofs.Sent.Runs.{run_listed, runs_have_sent, start_sent}
use Rattle.flr_honest.proofs.Sent.Steps.{step_sent}
use Rattle.flr_honest.proofs.laws.calls_send_their_parts.Goals as goal

pub returns-clause-start : goal.returns-clause-start
returns-clause-start c = start_sent

pub returns-clause-steps : goal.returns-clause-steps
returns-clause-steps c = step_sent

pub returns-clause-listed : goal.returns-clause-listed
returns-clause-listed c = run_listed

pub returns-clause-runs : goal.returns-clause-runs
returns-clause-runs c = runs_have_sent
