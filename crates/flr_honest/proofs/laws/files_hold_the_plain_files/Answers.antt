-- Files hold the plain files.
use Rattle.flr_honest.proofs.Runs.{runs_hold_plain, runs_honest}
use Rattle.flr_honest.proofs.Steps.{step_honest}
use Rattle.flr_honest.proofs.laws.files_hold_the_plain_files.Goals as goal

pub returns-clause-steps : goal.returns-clause-steps
returns-clause-steps c = step_honest

pub returns-clause-honest : goal.returns-clause-honest
returns-clause-honest c = runs_honest

pub returns-clause-plain : goal.returns-clause-plain
returns-clause-plain c = runs_hold_plain
