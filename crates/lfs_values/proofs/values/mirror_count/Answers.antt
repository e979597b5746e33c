use Rattle.std.proofs.Common.{arith}
use Rattle.lfs_values.proofs.ValueLaws.{mirror_count_spelled}
use Rattle.lfs_values.proofs.values.mirror_count.Goals as goal

pub returns-clause-spelled : goal.returns-clause-spelled
returns-clause-spelled c = λ n. rw c.read_mirror_count.ensures (mirror_count_spelled c.args.most c.args.word.now n (let fits = c.ranges.most.fits in omega arith))
