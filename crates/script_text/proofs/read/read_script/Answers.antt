use Rattle.script_text.proofs.ReplayLaws.{script_read}
use Rattle.script_text.proofs.Wholly.{read_again}
use Rattle.script_text.proofs.read.read_script.Goals as goal

pub returns-clause-read : goal.returns-clause-read
returns-clause-read c = script_read c.args.text.now c.read.result c.read.ensures.exact

pub returns-clause-again : goal.returns-clause-again
returns-clause-again c = read_again c.args.text.now c.read.result c.read.ensures.exact
