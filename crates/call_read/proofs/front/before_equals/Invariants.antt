use Rattle.std.proofs.Common.{length}
use Rattle.call_read.proofs.Equals.{SoFar}
use Rattle.call_read.proofs.front.before_equals.Given as goal

abbrev pub invariant-loop-left : goal.invariant-loop-left
invariant-loop-left l = SoFar l.words l.left l.text.items

abbrev pub decreases-loop-left : goal.decreases-loop-left
decreases-loop-left l = length l.left
