use Rattle.report_read.proofs.FileLaws.{file_again}
use Rattle.report_read.proofs.file.read_file.Goals as goal

pub returns-clause-again : goal.returns-clause-again
returns-clause-again c = file_again c.args.text.now c.front.result c.front.ensures
