use Rattle.std.proofs.Common.{length}
use Rattle.script_text.proofs.Parts.{EvictionsSoFar}
use Rattle.script_text.proofs.evictions.evictions_in.Given as goal

abbrev pub invariant-loop-line : goal.invariant-loop-line
invariant-loop-line l = EvictionsSoFar l.clients l.text l.rest l.at

abbrev pub decreases-loop-line : goal.decreases-loop-line
decreases-loop-line l = length l.rest
