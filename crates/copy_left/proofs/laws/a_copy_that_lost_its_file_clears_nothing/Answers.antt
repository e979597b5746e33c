use Rattle.copy_left.proofs.Nothing.{lost_clears_nothing}
use Rattle.copy_left.proofs.laws.a_copy_that_lost_its_file_clears_nothing.Goals as goal

pub returns : goal.returns
returns c = record { nothing = lost_clears_nothing }
