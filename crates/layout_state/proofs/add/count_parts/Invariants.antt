-- The parts so far are counted.
use Rattle.std.proofs.Common.{◌≡◌, ◌+◌, drop}
use Rattle.composite_layout.specs.Making.{part_count}
use Rattle.layout_state.proofs.add.count_parts.Given as goal

abbrev pub invariant-loop-mirror : goal.invariant-loop-mirror
invariant-loop-mirror l = l.count + part_count (drop l.mirror-index l.mirrors) ≡ part_count l.mirrors
