-- By the induction over runs.
use Rattle.flr_bound.proofs.Rooms.{script_few}
use Rattle.flr_bound.proofs.numbers.scripts_name_few.Goals as goal

pub returns : goal.returns
returns c = record { few = script_few }
