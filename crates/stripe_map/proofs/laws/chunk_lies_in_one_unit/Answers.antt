use Rattle.stripe_map.proofs.PlaceLaws.{chunk_in_one_unit}
use Rattle.stripe_map.proofs.laws.chunk_lies_in_one_unit.Goals as goal

pub returns : goal.returns
returns c = record { law = chunk_in_one_unit }
