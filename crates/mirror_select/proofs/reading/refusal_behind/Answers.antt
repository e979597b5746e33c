-- Each byte had a candidate, so memory ran out.
use Rattle.std.proofs.Common.{◌∙◌}
use Rattle.mirror_select.proofs.Grouping.{without_none}
use Rattle.mirror_select.proofs.reading.refusal_behind.Goals as goal

pub returns : goal.returns
returns c = c.loop-at.invariant ∙ without_none c.args.components.now c.args.failed.now c.loop-at.at c.args.behind.end c.loop-at-test.false
