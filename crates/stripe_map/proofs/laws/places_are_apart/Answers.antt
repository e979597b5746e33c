use Rattle.stripe_map.proofs.PlaceLaws.{places_apart}
use Rattle.stripe_map.proofs.laws.places_are_apart.Goals as goal

pub returns : goal.returns
returns c = record { law = places_apart }
