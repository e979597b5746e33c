use Rattle.std.proofs.Common.{length}
use Rattle.layout_text.proofs.FrontLaws.{SoFar}
use Rattle.layout_text.proofs.read.read_lines.Given as goal

abbrev pub invariant-loop-line : goal.invariant-loop-line
invariant-loop-line l = SoFar l.text l.taken l.phase l.seen l.rest

abbrev pub decreases-loop-line : goal.decreases-loop-line
decreases-loop-line l = length l.rest
