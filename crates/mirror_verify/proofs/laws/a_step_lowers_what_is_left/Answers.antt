use Rattle.mirror_verify.proofs.LeftLaws.{close_is_last, open_leaves, take_lowers}
use Rattle.mirror_verify.proofs.laws.a_step_lowers_what_is_left.Goals as goal

pub returns : goal.returns
returns c = record { lowers = take_lowers; last = close_is_last; opened = open_leaves }
