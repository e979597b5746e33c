-- Every run leaves room.
use Rattle.flr_runs.proofs.Runs.{runs_leave, runs_room}
use Rattle.flr_runs.proofs.laws.runs_have_room.Goals as goal

pub returns-clause-room : goal.returns-clause-room
returns-clause-room c = runs_room

pub returns-clause-leave : goal.returns-clause-leave
returns-clause-leave c = runs_leave
