use Rattle.std.proofs.Common.{length}
use Rattle.script_text.proofs.Parts.{SkippedSoFar}
use Rattle.script_text.proofs.schedule.all_skipped.Given as goal

abbrev pub invariant-loop-line : goal.invariant-loop-line
invariant-loop-line l = SkippedSoFar l.knows_mirrors l.at l.text l.rest l.line_at

abbrev pub decreases-loop-line : goal.decreases-loop-line
decreases-loop-line l = length l.rest
