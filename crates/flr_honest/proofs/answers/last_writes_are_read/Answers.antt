-- A read sees the last write.
use Rattle.flr_honest.proofs.Legal.Seeing.{last_writes_are_read, runs_read_last_writes}
use Rattle.flr_honest.proofs.answers.last_writes_are_read.Goals as goal

pub returns-clause-histories : goal.returns-clause-histories
returns-clause-histories c = last_writes_are_read

pub returns-clause-runs : goal.returns-clause-runs
returns-clause-runs c = runs_read_last_writes
