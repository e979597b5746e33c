use Rattle.flr_claims.proofs.BlockingLaws.{blocked_where_waiting}
use Rattle.flr_claims.proofs.blocking.blocked_where_waiting.Goals as goal

pub returns : goal.returns
returns c = record { exactly = blocked_where_waiting }
