-- Step by step.
use Rattle.flr_ends.proofs.Ends.{runs_within}
use Rattle.flr_ends.proofs.runs.runs_end.Goals as goal

pub returns : goal.returns
returns c = record { end = runs_within }
