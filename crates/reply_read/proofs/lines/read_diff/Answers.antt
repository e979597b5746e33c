use Rattle.reply_read.proofs.LineLaws.{diff_spelled}
use Rattle.reply_read.proofs.lines.read_diff.Goals as goal

pub returns-clause-spelled : goal.returns-clause-spelled
returns-clause-spelled c = diff_spelled c.args.line.now c.diff_of.result c.diff_of.ensures
