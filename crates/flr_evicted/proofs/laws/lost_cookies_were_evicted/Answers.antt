-- Lost cookies were evicted.
use Rattle.flr_evicted.proofs.Runs.{runs_explain}
use Rattle.flr_evicted.proofs.laws.lost_cookies_were_evicted.Goals as goal

pub returns : goal.returns
returns c = record { runs = runs_explain }
