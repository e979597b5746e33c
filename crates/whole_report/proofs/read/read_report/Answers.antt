use Rattle.whole_report.proofs.Unique.{again_law}
use Rattle.whole_report.proofs.read.read_report.Goals as goal

pub returns-clause-again : goal.returns-clause-again
returns-clause-again c = again_law c.args.text.now c.read.result c.read.ensures
