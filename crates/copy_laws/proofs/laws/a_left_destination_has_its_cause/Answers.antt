use Rattle.copy_laws.proofs.CauseKeeping.{left_have_causes}
use Rattle.copy_laws.proofs.Logged.{failed_are_logged}
use Rattle.copy_laws.proofs.laws.a_left_destination_has_its_cause.Goals as goal

pub returns : goal.returns
returns c = record { cause = left_have_causes; logged = failed_are_logged }
