use Rattle.std.proofs.Common.{refl}
use Rattle.tests_servers.proofs.files.open_read.Goals as goal

pub open_read-requires-clause-share : goal.open_read-requires-clause-share
open_read-requires-clause-share c = c.if-not-may_share.ensures.says.0 refl
