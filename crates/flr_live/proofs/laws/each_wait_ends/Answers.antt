-- Each wait leads to a step, and none to itself.
use Rattle.flr_live.proofs.Ending.{each_wait_ends, no_circles}
use Rattle.flr_live.proofs.laws.each_wait_ends.Goals as goal

pub returns-clause-ends : goal.returns-clause-ends
returns-clause-ends c = each_wait_ends

pub returns-clause-circles : goal.returns-clause-circles
returns-clause-circles c = no_circles
