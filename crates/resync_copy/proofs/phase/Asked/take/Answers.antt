use Rattle.resync_copy.proofs.PartLaws.{there}
use Rattle.resync_copy.proofs.phase.Asked.take.Goals as goal

pub read-requires-clause-there : goal.read-requires-clause-there
read-requires-clause-there c = there c.args.targets.now c.args.chunk.copying.side.layout.components c.spot_from-spot.result.object c.requires.there c.spot_from-spot.ensures.named
