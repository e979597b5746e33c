use Rattle.mirror_select.proofs.TailLaws.{are_all}
use Rattle.mirror_select.proofs.laws.tails_are_all.Goals as goal

pub returns : goal.returns
returns c = record { law = are_all }
