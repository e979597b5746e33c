-- Copies have few objects in hand.
use Rattle.flr_stripes.proofs.Runs.{runs_few}
use Rattle.flr_stripes.proofs.laws.copies_hold_few.Goals as goal

pub returns : goal.returns
returns c = record { runs = runs_few }
