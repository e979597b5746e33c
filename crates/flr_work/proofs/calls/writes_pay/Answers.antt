-- Phase by phase.
use Rattle.flr_work.proofs.WriteSteps.{write_fares}
use Rattle.flr_work.proofs.calls.writes_pay.Goals as goal

pub returns : goal.returns
returns c = record { pay = write_fares }
