use Rattle.call_read.proofs.HeadLaws.{head_spelled}
use Rattle.call_read.proofs.head.read_head.Goals as goal

pub returns-clause-spelled : goal.returns-clause-spelled
returns-clause-spelled c = head_spelled c.args.line.now c.head_of.result c.head_of.ensures
