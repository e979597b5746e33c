use Rattle.layout_text.specs.Viable.{layout_of}
use Rattle.layout_text.proofs.FrontLaws.{stands_same}
use Rattle.layout_text.proofs.read.read_front.Goals as goal

pub returns : goal.returns
returns c = stands_same c.args.text.now c.of-layout.result (layout_of c.in_ok-head.head c.in_ok-head.components.items) c.in_ok-head.rest.now c.of-layout.ensures.same c.in_ok-head.ensures
