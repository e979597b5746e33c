-- Merges do.
use Rattle.flr_sole.proofs.KeptOut.{merges_shut, merges_stay, taken_in_are_free}
use Rattle.flr_sole.proofs.laws.merges_keep_writes_out.Goals as goal

pub returns-clause-fenced : goal.returns-clause-fenced
returns-clause-fenced c = merges_shut

pub returns-clause-settled : goal.returns-clause-settled
returns-clause-settled c = merges_stay

pub returns-clause-taken : goal.returns-clause-taken
returns-clause-taken c = taken_in_are_free
