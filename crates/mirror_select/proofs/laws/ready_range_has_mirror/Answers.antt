use Rattle.mirror_select.proofs.ChoiceLaws.{ready_mirrors}
use Rattle.mirror_select.proofs.laws.ready_range_has_mirror.Goals as goal

pub returns : goal.returns
returns c = record { law = ready_mirrors }
