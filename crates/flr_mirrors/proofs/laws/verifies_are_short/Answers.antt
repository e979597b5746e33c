-- Verifies are short.
use Rattle.flr_mirrors.proofs.Runs.{runs_short}
use Rattle.flr_mirrors.proofs.laws.verifies_are_short.Goals as goal

pub returns : goal.returns
returns c = record { runs = runs_short }
