-- The first lock that somebody is in the way of stands among those of the ids that are left.
use Rattle.std.proofs.Common.{◌≡◌, ◌*◌, ◌-◌, Some}
use Rattle.mirror_select.specs.Tails.{stripes_above}
use Rattle.client_write.specs.OwnLocks.{HoldsOwn}
use Rattle.client_write.specs.Truncates.{first_blocker}
use Rattle.client_write.proofs.Unlisted.{asked_for}
use Rattle.client_write.proofs.tails.first_in_the_way.Given as goal

abbrev pub invariant-loop-index : goal.invariant-loop-index
invariant-loop-index l = record {
  first :
      first_blocker (asked_for l.client l.from (stripes_above l.layout.components (Some l.mirror) l.from 0 (l.layout.next_mirror * 65536))) l.initial.locks
      ≡ first_blocker (asked_for l.client l.from (stripes_above l.layout.components (Some l.mirror) l.from l.id (l.layout.next_mirror * 65536 - l.id))) l.initial.locks;
  own : HoldsOwn l.client l.initial.locks l.locks;
}

abbrev pub decreases-loop-index : goal.decreases-loop-index
decreases-loop-index l = l.layout.next_mirror * 65536 - l.id
