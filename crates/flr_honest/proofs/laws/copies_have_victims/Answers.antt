-- Each copy that takes in a file has the key of its victim.
use Rattle.flr_honest.proofs.Stores.Keeping.{runs_victims, start_victims, step_victims}
use Rattle.flr_honest.proofs.laws.copies_have_victims.Goals as goal

pub returns-clause-start : goal.returns-clause-start
returns-clause-start c = start_victims

pub returns-clause-steps : goal.returns-clause-steps
returns-clause-steps c = step_victims

pub returns-clause-runs : goal.returns-clause-runs
returns-clause-runs c = runs_victims
