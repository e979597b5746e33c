-- Files are short.
use Rattle.flr_sizes.proofs.Runs.{runs_short}
use Rattle.flr_sizes.proofs.laws.files_are_short.Goals as goal

pub returns : goal.returns
returns c = record { runs = runs_short }
