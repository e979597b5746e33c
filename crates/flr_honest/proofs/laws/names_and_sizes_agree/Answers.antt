-- Names and sizes after each step.
use Rattle.flr_honest.proofs.Stores.Sizes.{steps_keep_sizes}
use Rattle.flr_honest.proofs.laws.names_and_sizes_agree.Goals as goal

pub returns : goal.returns
returns c = record { steps = steps_keep_sizes }
