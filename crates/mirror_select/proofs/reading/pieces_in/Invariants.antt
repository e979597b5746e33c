-- The pieces so far and those of the bytes that are left.
use Rattle.std.proofs.Common.{◌≡◌, ◌++◌, ◌-◌}
use Rattle.mirror_select.specs.Candidates.{chosen}
use Rattle.mirror_select.specs.Pieces.{first_without, pieces_by}
use Rattle.mirror_select.proofs.reading.pieces_in.Given as goal

abbrev pub invariant-loop-at : goal.invariant-loop-at
invariant-loop-at l = record {
  pieces : l.pieces ++ pieces_by (chosen l.components l.failed) l.at l.range.end ≡ pieces_by (chosen l.components l.failed) l.range.start l.range.end;
  answered : first_without l.components l.range.start l.range.end l.failed ≡ first_without l.components l.at l.range.end l.failed;
}

abbrev pub decreases-loop-at : goal.decreases-loop-at
decreases-loop-at l = l.range.end - l.at
