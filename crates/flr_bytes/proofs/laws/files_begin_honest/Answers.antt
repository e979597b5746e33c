-- Before any step.
use Rattle.flr_bytes.proofs.Beginning.{start_honest}
use Rattle.flr_bytes.proofs.laws.files_begin_honest.Goals as goal

pub returns : goal.returns
returns c = record { start = start_honest }
