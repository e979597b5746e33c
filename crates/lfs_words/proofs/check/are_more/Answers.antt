use Rattle.std.proofs.Common.{arith}
use Rattle.lfs_words.proofs.Expanding.{too_many}
use Rattle.lfs_words.proofs.check.are_more.Goals as goal

pub returns-then-left-mirror : goal.returns-then-left-mirror
returns-then-left-mirror c =
    too_many c.args.mirrors.now c.loop-mirror.mirror-index c.loop-mirror.left c.args.most c.mirror-item.result c.mirror-item.result (omega arith) c.mirror-item.is c.loop-mirror.invariant (omega arith)
