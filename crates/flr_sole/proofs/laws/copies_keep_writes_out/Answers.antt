-- Copies keep writes out.
use Rattle.flr_sole.proofs.KeptOut.{cleared_are_free, fences_shut, settled_stay}
use Rattle.flr_sole.proofs.laws.copies_keep_writes_out.Goals as goal

pub returns-clause-fenced : goal.returns-clause-fenced
returns-clause-fenced c = fences_shut

pub returns-clause-settled : goal.returns-clause-settled
returns-clause-settled c = settled_stay

pub returns-clause-cleared : goal.returns-clause-cleared
returns-clause-cleared c = cleared_are_free
