use Rattle.stripe_map.proofs.PlaceLaws.{unit_consecutive}
use Rattle.stripe_map.proofs.laws.unit_is_consecutive.Goals as goal

pub returns : goal.returns
returns c = record { law = unit_consecutive }
