use Rattle.client_read.proofs.ToldLaws.{tells_what_it_took}
use Rattle.client_read.proofs.laws.a_read_tells_what_it_took.Goals as goal

pub returns : goal.returns
returns c = record { right = tells_what_it_took }
