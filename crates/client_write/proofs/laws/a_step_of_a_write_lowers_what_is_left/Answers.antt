use Rattle.client_write.proofs.LeftLaws.{open_leaves, step_lowers}
use Rattle.client_write.proofs.laws.a_step_of_a_write_lowers_what_is_left.Goals as goal

pub returns : goal.returns
returns c = record { lowers = step_lowers; opened = open_leaves }
