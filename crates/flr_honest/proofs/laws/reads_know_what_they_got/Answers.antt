-- Reads know what they got.
use Rattle.flr_honest.proofs.Knowing.Others.{other_reads}
use Rattle.flr_honest.proofs.Knowing.Own.{own_reads}
use Rattle.flr_honest.proofs.laws.reads_know_what_they_got.Goals as goal

pub returns : goal.returns
returns c = record { known = λ keep. (own_reads keep, other_reads keep) }
