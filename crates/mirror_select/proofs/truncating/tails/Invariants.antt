-- The tails so far and those of the ids that are left.
use Rattle.std.proofs.Common.{◌≡◌, ◌++◌, ◌*◌, ◌-◌, Some, map}
use Rattle.mirror_select.specs.Tails.{stripes_above, tail_in}
use Rattle.mirror_select.proofs.truncating.tails.Given as goal

abbrev pub invariant-loop-index : goal.invariant-loop-index
invariant-loop-index l =
    l.tails ++ map (tail_in l.from) (stripes_above l.layout.components (Some l.mirror) l.from l.id (l.layout.next_mirror * 65536 - l.id))
    ≡ map (tail_in l.from) (stripes_above l.layout.components (Some l.mirror) l.from 0 (l.layout.next_mirror * 65536))

abbrev pub decreases-loop-index : goal.decreases-loop-index
decreases-loop-index l = l.layout.next_mirror * 65536 - l.id
