-- By the induction over runs.
use Rattle.flr_past.proofs.Runs.{are_whole}
use Rattle.flr_past.proofs.laws.finished_runs_are_whole.Goals as goal

pub returns : goal.returns
returns c = record { whole = are_whole }
