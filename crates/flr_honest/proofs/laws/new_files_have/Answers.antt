-- What new files have.
use Rattle.flr_honest.proofs.Stores.Coming.{steps_give_new}
use Rattle.flr_honest.proofs.laws.new_files_have.Goals as goal

pub returns : goal.returns
returns c = record { steps = steps_give_new }
