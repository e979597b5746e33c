use Rattle.std.proofs.Common.{length}
use Rattle.whole_report.proofs.CallLaws.{CallsSoFar}
use Rattle.whole_report.proofs.calls.read_calls.Given as goal

abbrev pub invariant-loop-alloc : goal.invariant-loop-alloc
invariant-loop-alloc l = CallsSoFar l.text l.calls l.after l.top l.rest

abbrev pub decreases-loop-alloc : goal.decreases-loop-alloc
decreases-loop-alloc l = length l.rest
