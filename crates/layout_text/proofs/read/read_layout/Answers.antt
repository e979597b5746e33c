use Rattle.layout_text.proofs.ReadLaws.{read_law, bad_law, again_law}
use Rattle.layout_text.proofs.read.read_layout.Goals as goal

pub returns-clause-read : goal.returns-clause-read
returns-clause-read c = read_law c.args.text.now c.read.result c.read.ensures

pub returns-clause-bad : goal.returns-clause-bad
returns-clause-bad c = bad_law c.args.text.now c.read.result c.read.ensures

pub returns-clause-again : goal.returns-clause-again
returns-clause-again c = again_law c.args.text.now c.read.result c.read.ensures
