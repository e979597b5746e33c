-- The plain files after each step.
use Rattle.flr_honest.proofs.Stores.Answering.{steps_keep_store}
use Rattle.flr_honest.proofs.laws.stores_follow_answers.Goals as goal

pub returns : goal.returns
returns c = record { follows = steps_keep_store }
