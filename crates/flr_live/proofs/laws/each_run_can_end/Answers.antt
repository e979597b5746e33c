-- Every run can be led to its end.
use Rattle.flr_live.proofs.Finishing.{each_run_can_end}
use Rattle.flr_live.proofs.laws.each_run_can_end.Goals as goal

pub returns : goal.returns
returns c = record { ends = each_run_can_end }
