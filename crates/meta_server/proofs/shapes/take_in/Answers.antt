-- The layout is what its fields say.
use Rattle.meta_server.proofs.Fields.{merged_is}
use Rattle.meta_server.proofs.shapes.take_in.Goals as goal

pub returns-in-Ok-clause-merged : goal.returns-in-Ok-clause-merged
returns-in-Ok-clause-merged c = merged_is c.in-Ok.ensures.merged
