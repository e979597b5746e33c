use Rattle.flr_steps.proofs.TraceLaws.{traces_stand_beside}
use Rattle.flr_steps.proofs.run_laws.traces_stand_beside.Goals as goal

pub returns : goal.returns
returns c = record { beside = traces_stand_beside }
