use Rattle.std.proofs.Common.{length}
use Rattle.report_read.proofs.RunWords.{SoFar}
use Rattle.report_read.proofs.schedule.runs_in.Given as goal

abbrev pub invariant-loop-left : goal.invariant-loop-left
invariant-loop-left l = SoFar l.words l.left l.last l.runs.items

abbrev pub decreases-loop-left : goal.decreases-loop-left
decreases-loop-left l = length l.left
