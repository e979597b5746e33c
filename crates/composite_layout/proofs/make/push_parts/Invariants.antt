-- The components of the parts so far are pushed.
use Rattle.std.proofs.Common.{◌≡◌, ◌+◌, ◌++◌, drop}
use Rattle.composite_layout.specs.Making.{new_parts}
use Rattle.composite_layout.proofs.make.push_parts.Given as goal

abbrev pub invariant-loop-index : goal.invariant-loop-index
invariant-loop-index l =
    l.made.items ++ new_parts l.of.stale l.of.targets l.of.id l.of.prefer (l.counter + l.index) l.start (drop l.index l.parts)
    ≡ l.initial.made.items ++ new_parts l.of.stale l.of.targets l.of.id l.of.prefer l.counter 0 l.parts
