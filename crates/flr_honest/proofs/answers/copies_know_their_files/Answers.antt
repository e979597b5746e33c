-- Each copy knows its file.
use Rattle.flr_honest.proofs.Legal.Keeping.{runs_know, start_knows, steps_know}
use Rattle.flr_honest.proofs.answers.copies_know_their_files.Goals as goal

pub returns-clause-start : goal.returns-clause-start
returns-clause-start c = start_knows

pub returns-clause-steps : goal.returns-clause-steps
returns-clause-steps c = steps_know

pub returns-clause-runs : goal.returns-clause-runs
returns-clause-runs c = runs_know
