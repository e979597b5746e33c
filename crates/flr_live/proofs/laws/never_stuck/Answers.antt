-- Some client can make its next step.
use Rattle.flr_live.proofs.Ending.{never_stuck}
use Rattle.flr_live.proofs.laws.never_stuck.Goals as goal

pub returns : goal.returns
returns c = record { steps = never_stuck }
