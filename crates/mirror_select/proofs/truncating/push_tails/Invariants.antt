-- The tails so far and those of the stripes that are left.
use Rattle.std.proofs.Common.{◌≡◌, ◌++◌, drop, map}
use Rattle.mirror_select.specs.Tails.{stripes_from, stripes_in, tail_in}
use Rattle.mirror_select.proofs.truncating.push_tails.Given as goal

abbrev pub invariant-loop-index : goal.invariant-loop-index
invariant-loop-index l =
    l.tails ++ map (tail_in l.from) (stripes_from l.component l.index (drop l.index l.component.objects))
    ≡ l.initial.tails ++ map (tail_in l.from) (stripes_in l.component)
