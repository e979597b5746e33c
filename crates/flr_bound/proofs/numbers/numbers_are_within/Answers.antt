-- By the induction over runs.
use Rattle.flr_bound.proofs.Runs.{run_within}
use Rattle.flr_bound.proofs.numbers.numbers_are_within.Goals as goal

pub returns : goal.returns
returns c = record { within = run_within }
