use Rattle.client_read.proofs.LeftLaws.{open_leaves, step_lowers}
use Rattle.client_read.proofs.laws.a_step_lowers_what_is_left.Goals as goal

pub returns : goal.returns
returns c = record { lowers = step_lowers; opened = open_leaves }
