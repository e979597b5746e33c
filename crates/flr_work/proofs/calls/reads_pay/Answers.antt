-- Phase by phase.
use Rattle.flr_work.proofs.ReadSteps.{read_fares}
use Rattle.flr_work.proofs.calls.reads_pay.Goals as goal

pub returns : goal.returns
returns c = record { pay = read_fares }
