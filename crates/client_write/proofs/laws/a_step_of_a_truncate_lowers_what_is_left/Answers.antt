use Rattle.client_write.proofs.LeftLaws.{cut_lowers, cut_open_leaves}
use Rattle.client_write.proofs.laws.a_step_of_a_truncate_lowers_what_is_left.Goals as goal

pub returns : goal.returns
returns c = record { lowers = cut_lowers; opened = cut_open_leaves }
