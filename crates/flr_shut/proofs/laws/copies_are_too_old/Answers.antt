-- What copies put and reset there is too old.
use Rattle.flr_shut.proofs.Old.{copies_old, destinations_stale, puts_old, resets_old}
use Rattle.flr_shut.proofs.laws.copies_are_too_old.Goals as goal

pub returns-clause-any : goal.returns-clause-any
returns-clause-any c = copies_old

pub returns-clause-resets : goal.returns-clause-resets
returns-clause-resets c = resets_old

pub returns-clause-puts : goal.returns-clause-puts
returns-clause-puts c = puts_old

pub returns-clause-stale : goal.returns-clause-stale
returns-clause-stale c = destinations_stale
