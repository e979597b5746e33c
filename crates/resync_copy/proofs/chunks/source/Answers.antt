use Rattle.std.proofs.Common.{◌*◌, sym}
use Rattle.resync_copy.proofs.Sources.{nobody}
use Rattle.resync_copy.proofs.chunks.source.Goals as goal

pub returns-in-AllOffline : goal.returns-in-AllOffline
returns-in-AllOffline c = record { chosen = sym (nobody c.args.layout.now.components c.args.failed.now (c.args.chunk * 65536) (rw c.in-AllOffline.is at c.choose.ensures.cases).0) }

pub returns-in-AllFailed : goal.returns-in-AllFailed
returns-in-AllFailed c = record { chosen = sym (nobody c.args.layout.now.components c.args.failed.now (c.args.chunk * 65536) (rw c.in-AllFailed.is at c.choose.ensures.cases).0) }
