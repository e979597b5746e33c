use Rattle.flr_steps.proofs.Fronts.{each_run_keeps}
use Rattle.flr_steps.proofs.run_laws.runs_keep_the_script.Goals as goal

pub returns : goal.returns
returns c = record { keeps = each_run_keeps }
