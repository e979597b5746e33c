-- Each next step finds what it wants.
use Rattle.flr_runs.proofs.Runs.{all_fit}
use Rattle.flr_runs.proofs.laws.each_next_step_finds_what_it_wants.Goals as goal

pub returns : goal.returns
returns c = record { fits = all_fit }
