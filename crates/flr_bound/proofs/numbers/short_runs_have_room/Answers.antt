-- By the induction over runs.
use Rattle.flr_bound.proofs.Rooms.{run_room}
use Rattle.flr_bound.proofs.numbers.short_runs_have_room.Goals as goal

pub returns : goal.returns
returns c = record { room = run_room }
