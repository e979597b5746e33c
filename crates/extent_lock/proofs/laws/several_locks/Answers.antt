use Rattle.extent_lock.proofs.LockLaws.{blocker-own, locks_but-own}
use Rattle.extent_lock.proofs.laws.several_locks.Goals as goal

pub returns-clause-own_no_matter : goal.returns-clause-own_no_matter
returns-clause-own_no_matter c = blocker-own

pub returns-clause-given_back : goal.returns-clause-given_back
returns-clause-given_back c = locks_but-own
