-- Copies are fit.
use Rattle.flr_honest.proofs.Lasting.Fits.{runs_fit, start_fits, steps_fit}
use Rattle.flr_honest.proofs.laws.copies_are_fit.Goals as goal

pub returns-clause-start : goal.returns-clause-start
returns-clause-start c = start_fits

pub returns-clause-steps : goal.returns-clause-steps
returns-clause-steps c = steps_fit

pub returns-clause-runs : goal.returns-clause-runs
returns-clause-runs c = runs_fit
