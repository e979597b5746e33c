-- Everybody holds what he is to.
use Rattle.flr_runs.proofs.Runs.{all_hold}
use Rattle.flr_runs.proofs.laws.everybody_always_holds_what_is_his.Goals as goal

pub returns : goal.returns
returns c = record { holds = all_hold }
