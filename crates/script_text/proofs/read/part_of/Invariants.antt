use Rattle.std.proofs.Common.{length}
use Rattle.script_text.proofs.Parts.{ReadSoFar}
use Rattle.script_text.proofs.read.part_of.Given as goal

abbrev pub invariant-loop-line : goal.invariant-loop-line
invariant-loop-line l = ReadSoFar l.text l.rest l.at l.state

abbrev pub decreases-loop-line : goal.decreases-loop-line
decreases-loop-line l = length l.rest
