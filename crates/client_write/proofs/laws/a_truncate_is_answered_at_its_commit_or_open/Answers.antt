use Rattle.client_write.proofs.CutRunLaws.{cut_answered_at_open, cut_fixed_at_commit}
use Rattle.client_write.proofs.laws.a_truncate_is_answered_at_its_commit_or_open.Goals as goal

pub returns : goal.returns
returns c = record { fixed = cut_fixed_at_commit; answered = cut_answered_at_open }
