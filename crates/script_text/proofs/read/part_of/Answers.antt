use Rattle.script_text.proofs.Parts.{read_more}
use Rattle.script_text.proofs.read.part_of.Goals as goal

pub loop-line-preserved : goal.loop-line-preserved
loop-line-preserved c =
    read_more c.args.text.now c.loop-line.rest.now c.in-Some.behind.now c.loop-line.at c.loop-line.state c.in-Ok.after _ c.loop-line.invariant c.in-Some.ensures.first c.in-Some.ensures.shorter c.in-Ok.ensures
