use Rattle.stripe_map.proofs.PlaceLaws.{back_of-place_of}
use Rattle.stripe_map.proofs.mapping.place.Goals as goal

pub returns-clause-undone : goal.returns-clause-undone
returns-clause-undone c = rw c.from-count.ensures (back_of-place_of c.args.stripe c.args.x)
