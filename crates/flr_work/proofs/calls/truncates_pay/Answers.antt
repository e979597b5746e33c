-- Phase by phase.
use Rattle.flr_work.proofs.WriteSteps.{truncate_fares}
use Rattle.flr_work.proofs.calls.truncates_pay.Goals as goal

pub returns : goal.returns
returns c = record { pay = truncate_fares }
