use Rattle.std.proofs.Common.{arith}
use Rattle.lfs_words.specs.Printing.{mirror_words}
use Rattle.lfs_words.proofs.Spaced.{next_err}
use Rattle.lfs_words.proofs.options.put_each.Goals as goal

pub returns-in_err-put_mirror : goal.returns-in_err-put_mirror
returns-in_err-put_mirror c = next_err mirror_words c.args.mirrors.now c.loop-mirror.mirror-index c.mirror-item.result c.from_residual.result _ _ _ c.from_residual.ensures.0 (omega arith) c.mirror-item.is c.loop-mirror.invariant c.in_err-put_mirror.ensures
