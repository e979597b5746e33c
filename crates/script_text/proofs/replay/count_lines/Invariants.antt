use Rattle.std.proofs.Common.{length}
use Rattle.script_text.proofs.Parts.{CountSoFar}
use Rattle.script_text.proofs.replay.count_lines.Given as goal

abbrev pub invariant-loop-behind : goal.invariant-loop-behind
invariant-loop-behind l = CountSoFar l.text l.rest l.count

abbrev pub decreases-loop-behind : goal.decreases-loop-behind
decreases-loop-behind l = length l.rest
