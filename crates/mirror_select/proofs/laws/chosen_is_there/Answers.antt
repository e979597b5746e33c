use Rattle.mirror_select.proofs.ChoiceLaws.{chosen_there}
use Rattle.mirror_select.proofs.laws.chosen_is_there.Goals as goal

pub returns : goal.returns
returns c = record { law = chosen_there }
