-- Each call's step changes one object at most.
use Rattle.flr_honest.proofs.Landed.Steps.{steps_write}
use Rattle.flr_honest.proofs.laws.each_step_writes_so.Goals as goal

pub returns : goal.returns
returns c = steps_write
