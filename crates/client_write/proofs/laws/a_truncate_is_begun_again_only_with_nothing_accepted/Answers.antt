use Rattle.client_write.proofs.CutRunLaws.{cut_again_has_none, evicted_has_punched}
use Rattle.client_write.proofs.laws.a_truncate_is_begun_again_only_with_nothing_accepted.Goals as goal

pub returns : goal.returns
returns c = record { again = cut_again_has_none; evicted = evicted_has_punched }
