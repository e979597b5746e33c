use Rattle.client_write.proofs.WriteRunLaws.{answered_at_open, fixed_at_commit}
use Rattle.client_write.proofs.laws.a_write_is_answered_at_its_commit_or_open.Goals as goal

pub returns : goal.returns
returns c = record { fixed = fixed_at_commit; answered = answered_at_open }
