-- Each byte so far has a candidate.
use Rattle.std.proofs.Common.{◌≡◌, ◌-◌}
use Rattle.mirror_select.specs.Pieces.{first_without}
use Rattle.mirror_select.proofs.reading.refusal_behind.Given as goal

abbrev pub invariant-loop-at : goal.invariant-loop-at
invariant-loop-at l = first_without l.components l.behind.start l.behind.end l.failed ≡ first_without l.components l.at l.behind.end l.failed

abbrev pub decreases-loop-at : goal.decreases-loop-at
decreases-loop-at l = l.behind.end - l.at
