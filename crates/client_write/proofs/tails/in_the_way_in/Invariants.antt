-- The first lock that somebody is in the way of stands among those that are left.
use Rattle.std.proofs.Common.{◌≡◌, drop}
use Rattle.mirror_select.specs.Tails.{stripes_from, stripes_in}
use Rattle.client_write.specs.OwnLocks.{HoldsOwn}
use Rattle.client_write.specs.Truncates.{first_blocker}
use Rattle.client_write.proofs.Unlisted.{asked_for}
use Rattle.client_write.proofs.tails.in_the_way_in.Given as goal

abbrev pub invariant-loop-index : goal.invariant-loop-index
invariant-loop-index l = record {
  first : first_blocker (asked_for l.client l.from (stripes_in l.component)) l.initial.locks ≡ first_blocker (asked_for l.client l.from (stripes_from l.component l.index (drop l.index l.component.objects))) l.initial.locks;
  own : HoldsOwn l.client l.initial.locks l.locks;
}
