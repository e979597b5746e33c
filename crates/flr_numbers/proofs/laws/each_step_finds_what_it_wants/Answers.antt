-- Each step finds what it wants.
use Rattle.flr_numbers.proofs.NextFits.{next_fits}
use Rattle.flr_numbers.proofs.Runs.{runs_fit}
use Rattle.flr_numbers.proofs.laws.each_step_finds_what_it_wants.Goals as goal

pub returns-clause-steps : goal.returns-clause-steps
returns-clause-steps c = next_fits

pub returns-clause-runs : goal.returns-clause-runs
returns-clause-runs c = runs_fit
