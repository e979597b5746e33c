use Rattle.mirror_select.proofs.ChoiceLaws.{chosen_least}
use Rattle.mirror_select.proofs.laws.chosen_is_least.Goals as goal

pub returns : goal.returns
returns c = record { law = chosen_least }
