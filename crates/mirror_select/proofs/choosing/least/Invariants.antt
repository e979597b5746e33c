-- The best place is that of the least candidate among the components so far.
use Rattle.std.proofs.Common.{take}
use Rattle.mirror_select.specs.Candidates.{comes_first, is_candidate}
use Rattle.mirror_select.proofs.Least.{IsBest}
use Rattle.mirror_select.proofs.choosing.least.Given as goal

abbrev pub invariant-loop-index : goal.invariant-loop-index
invariant-loop-index l = IsBest (is_candidate l.failed l.byte) comes_first (take l.index l.components) l.best
