use Rattle.client_write.proofs.WriteRunLaws.{begun_again_has_none, evicted_has_accepted}
use Rattle.client_write.proofs.laws.a_write_is_begun_again_only_with_nothing_accepted.Goals as goal

pub returns : goal.returns
returns c = record { again = begun_again_has_none; evicted = evicted_has_accepted }
