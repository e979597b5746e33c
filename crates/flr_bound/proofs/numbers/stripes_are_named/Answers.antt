-- By the induction over runs.
use Rattle.flr_bound.proofs.Runs.{run_named}
use Rattle.flr_bound.proofs.numbers.stripes_are_named.Goals as goal

pub returns : goal.returns
returns c = record { named = run_named }
