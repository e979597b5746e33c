use Rattle.copy_laws.proofs.Run.{cleared_whole}
use Rattle.copy_laws.proofs.laws.a_cleared_destination_was_copied_whole.Goals as goal

pub returns : goal.returns
returns c = record { whole = cleared_whole }
