-- Phase by phase.
use Rattle.flr_work.proofs.VerifySteps.{verify_fares}
use Rattle.flr_work.proofs.calls.verifies_pay.Goals as goal

pub returns : goal.returns
returns c = record { pay = verify_fares }
