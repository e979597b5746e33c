use Rattle.report_read.proofs.FileLaws.{head_spelled}
use Rattle.report_read.proofs.file.read_file_head.Goals as goal

pub returns-clause-spelled : goal.returns-clause-spelled
returns-clause-spelled c = head_spelled c.args.line.now c.head_of.result c.head_of.ensures
