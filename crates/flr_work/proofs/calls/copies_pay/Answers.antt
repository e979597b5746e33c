-- Phase by phase.
use Rattle.flr_work.proofs.MergeSteps.{copy_fares}
use Rattle.flr_work.proofs.calls.copies_pay.Goals as goal

pub returns : goal.returns
returns c = record { pay = copy_fares }
