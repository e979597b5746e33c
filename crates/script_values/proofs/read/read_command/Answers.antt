use Rattle.script_values.proofs.CommandLaws.{answer_spelled, answer_good}
use Rattle.script_values.proofs.read.read_command.Goals as goal

pub returns-clause-spelled : goal.returns-clause-spelled
returns-clause-spelled c = answer_spelled c.args.most c.args.text.now c.read.result c.read.ensures

pub returns-clause-good : goal.returns-clause-good
returns-clause-good c = answer_good c.args.most c.args.text.now c.read.result c.read.ensures
