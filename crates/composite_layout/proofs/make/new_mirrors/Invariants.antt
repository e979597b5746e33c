-- The components of the mirrors so far are made.
use Rattle.std.proofs.Common.{◌≡◌, ◌+◌, ◌++◌, drop}
use Rattle.composite_layout.specs.Making.{new_mirrors, part_count}
use Rattle.composite_layout.proofs.make.new_mirrors.Given as goal

abbrev pub invariant-loop-index : goal.invariant-loop-index
invariant-loop-index l =
    (l.made.items ++ new_mirrors l.stale l.targets (l.first + l.index) l.counter (drop l.index l.mirror-items)
    ≡ new_mirrors l.stale l.targets l.first l.initial.counter l.mirror-items)
    × (l.counter + part_count (drop l.index l.mirror-items) ≡ l.initial.counter + part_count l.mirror-items)
