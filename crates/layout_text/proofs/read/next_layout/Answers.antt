use Rattle.layout_text.proofs.FrontLaws.{front_again}
use Rattle.layout_text.proofs.read.next_layout.Goals as goal

pub returns-clause-again : goal.returns-clause-again
returns-clause-again c = front_again c.args.text.now c.read_front.result c.read_front.ensures
