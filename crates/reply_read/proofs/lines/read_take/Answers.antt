use Rattle.reply_read.proofs.LineLaws.{take_spelled}
use Rattle.reply_read.proofs.lines.read_take.Goals as goal

pub returns-clause-spelled : goal.returns-clause-spelled
returns-clause-spelled c = take_spelled c.args.line.now c.take_of.result c.take_of.ensures
