use Rattle.mirror_select.proofs.TailLaws.{ascend}
use Rattle.mirror_select.proofs.laws.tails_ascend.Goals as goal

pub returns : goal.returns
returns c = record { law = ascend }
