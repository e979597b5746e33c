use Rattle.flr_steps.proofs.Unfinished.{unfinished_is_lowest}
use Rattle.flr_steps.proofs.run_laws.unfinished_is_lowest.Goals as goal

pub returns : goal.returns
returns c = record { lowest = unfinished_is_lowest }
