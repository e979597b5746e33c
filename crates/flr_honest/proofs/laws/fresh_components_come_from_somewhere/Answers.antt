-- Each fresh component comes from somewhere.
use Rattle.flr_honest.proofs.Origins.Bringing.{step_brings}
use Rattle.flr_honest.proofs.laws.fresh_components_come_from_somewhere.Goals as goal

pub returns : goal.returns
returns c = record { steps = step_brings }
