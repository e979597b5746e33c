use Rattle.std.proofs.Common.{length}
use Rattle.whole_report.proofs.FileLaws.{FilesSoFar}
use Rattle.whole_report.proofs.files.read_files.Given as goal

abbrev pub invariant-loop-alloc : goal.invariant-loop-alloc
invariant-loop-alloc l = FilesSoFar l.text l.files l.rest

abbrev pub decreases-loop-alloc : goal.decreases-loop-alloc
decreases-loop-alloc l = length l.rest
