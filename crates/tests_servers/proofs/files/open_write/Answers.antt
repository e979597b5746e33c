use Rattle.std.proofs.Common.{refl}
use Rattle.tests_servers.proofs.files.open_write.Goals as goal

pub open_write-requires-clause-share : goal.open_write-requires-clause-share
open_write-requires-clause-share c = c.if-not-may_share.ensures.says.0 refl
