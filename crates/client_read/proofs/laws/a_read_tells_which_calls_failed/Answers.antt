use Rattle.client_read.proofs.ToldLaws.{faults_are_told}
use Rattle.client_read.proofs.laws.a_read_tells_which_calls_failed.Goals as goal

pub returns : goal.returns
returns c = record { faults = faults_are_told }
