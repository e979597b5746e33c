use Rattle.call_read.proofs.FollowLaws.{DiffsSoFar}
use Rattle.call_read.proofs.following.diffs.Given as goal

abbrev pub invariant-loop-taken : goal.invariant-loop-taken
invariant-loop-taken l = DiffsSoFar l.count l.text l.taken l.diffs l.rest
