-- Copies know what they put.
use Rattle.flr_honest.proofs.Copied.OwnSteps.{own_copy_follows}
use Rattle.flr_honest.proofs.laws.copies_know_what_they_put.Goals as goal

pub returns : goal.returns
returns c = record { own = own_copy_follows }
