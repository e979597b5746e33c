-- The law, of every run.
use Rattle.flr_honest.proofs.Changes.Evictions.{runs_take_theirs}
use Rattle.flr_honest.proofs.stepped.evictions_take_theirs.Goals as goal

pub returns : goal.returns
returns c = record { evictions = runs_take_theirs }
