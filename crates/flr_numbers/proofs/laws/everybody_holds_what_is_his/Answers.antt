-- Everybody holds what he is to.
use Rattle.flr_numbers.proofs.Keeping.{step_holds}
use Rattle.flr_numbers.proofs.Runs.{runs_hold, start_holds}
use Rattle.flr_numbers.proofs.laws.everybody_holds_what_is_his.Goals as goal

pub returns-clause-start : goal.returns-clause-start
returns-clause-start c = start_holds

pub returns-clause-steps : goal.returns-clause-steps
returns-clause-steps c = step_holds

pub returns-clause-runs : goal.returns-clause-runs
returns-clause-runs c = runs_hold
