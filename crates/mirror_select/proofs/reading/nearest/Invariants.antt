-- The nearest among the components so far.
use Rattle.std.proofs.Common.{◌≡◌, take}
use Rattle.mirror_select.specs.Walking.{nearest}
use Rattle.mirror_select.proofs.reading.nearest.Given as goal

abbrev pub invariant-loop-other : goal.invariant-loop-other
invariant-loop-other l = l.near ≡ nearest l.failed l.component l.left.start l.left.end (take l.other-index l.components)
