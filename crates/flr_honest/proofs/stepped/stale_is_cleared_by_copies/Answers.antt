-- The law, of every run.
use Rattle.flr_honest.proofs.Changes.Clearing.{runs_clear_by_copies}
use Rattle.flr_honest.proofs.stepped.stale_is_cleared_by_copies.Goals as goal

pub returns : goal.returns
returns c = record { stale = runs_clear_by_copies }
