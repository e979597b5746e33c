use Rattle.std.proofs.Common.{length}
use Rattle.call_read.proofs.FollowLaws.{TakesSoFar}
use Rattle.call_read.proofs.following.takes.Given as goal

abbrev pub invariant-loop-line : goal.invariant-loop-line
invariant-loop-line l = TakesSoFar l.text l.takes l.rest

abbrev pub decreases-loop-line : goal.decreases-loop-line
decreases-loop-line l = length l.rest
