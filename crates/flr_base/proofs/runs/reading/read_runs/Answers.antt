use Rattle.flr_base.proofs.RunLaws.{again}
use Rattle.flr_base.proofs.runs.reading.read_runs.Goals as goal

pub returns-clause-again : goal.returns-clause-again
returns-clause-again c = again c.args.text.now c.args.most c.read.result c.read.ensures
