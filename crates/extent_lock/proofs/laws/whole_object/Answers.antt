use Rattle.extent_lock.proofs.LockLaws.{blocker-whole}
use Rattle.extent_lock.proofs.laws.whole_object.Goals as goal

pub returns : goal.returns
returns c = record { writers = blocker-whole }
