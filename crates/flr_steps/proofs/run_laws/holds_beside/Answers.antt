use Rattle.flr_steps.proofs.TraceLaws.{holds_beside}
use Rattle.flr_steps.proofs.run_laws.holds_beside.Goals as goal

pub returns : goal.returns
returns c = record { holds = holds_beside }
