use Rattle.client_read.proofs.EndLaws.{ends_at_once}
use Rattle.client_read.proofs.laws.a_read_ends_at_once.Goals as goal

pub returns : goal.returns
returns c = record { ends = ends_at_once }
