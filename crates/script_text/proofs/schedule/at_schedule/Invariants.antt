use Rattle.std.proofs.Common.{length}
use Rattle.script_text.proofs.ScheduleLaws.{ScheduleSoFar}
use Rattle.script_text.proofs.schedule.at_schedule.Given as goal

abbrev pub invariant-loop-line : goal.invariant-loop-line
invariant-loop-line l = ScheduleSoFar l.text l.rest

abbrev pub decreases-loop-line : goal.decreases-loop-line
decreases-loop-line l = length l.rest
