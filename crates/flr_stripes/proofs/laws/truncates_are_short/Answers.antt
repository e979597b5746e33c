-- Truncates have few tails.
use Rattle.flr_stripes.proofs.Runs.{runs_short}
use Rattle.flr_stripes.proofs.laws.truncates_are_short.Goals as goal

pub returns : goal.returns
returns c = record { runs = runs_short }
