use Rattle.mirror_select.proofs.TailLaws.{covers_from}
use Rattle.mirror_select.proofs.laws.tail_covers.Goals as goal

pub returns : goal.returns
returns c = record { law = covers_from }
