-- Verifies find copies alike.
use Rattle.flr_honest.proofs.Knowing.VerifySteps.{other_verifies, own_verifies}
use Rattle.flr_honest.proofs.laws.verifies_find_copies_alike.Goals as goal

pub returns : goal.returns
returns c = record { alike = λ keep. (own_verifies keep, other_verifies keep) }
